-- What is left of the array is a block and the tail behind it, so the lowest bit of the block's mask is the first
-- index.
use Rattle.starlark_hash.proofs.Common.{◌≡◌, ◌≢◌, ℕ, ◌+◌, ◌-◌, ◌≤◌, ◌++◌, List, [], Some, length, take, drop, arith, ap, sym, ◌∙◌, append-nil, take-append-drop, take_all, length-append, length-drop, count_trailing_zeros, nat_eq, position}
use Rattle.starlark_hash.proofs.PositionLemmas.{position-within}
use Rattle.starlark_vecmap.proofs.Blocks.{first, first_from, nowhere_from, past_block, lowest, position_at}
use Rattle.starlark_vecmap.proofs.Masks.{mask}
use Rattle.starlark_vecmap.proofs.hash_search.find_hash_in_blocks.Goals as goal

module _ (hash : ℕ) (array rest block tail : List ℕ) (passed m : ℕ) (index : passed + first hash rest ≡ first hash array) (parted : passed + length rest ≡ length array)
    (both : rest ≡ block ++ tail) (few : length block ≤ 64) (is : m ≡ mask hash block) where
  later : m ≡ 0 → passed + length block + first hash tail ≡ first hash array
  later none = omega (arith, ap (first hash) both, past_block hash block tail m few is none)

  found : m ≢ 0 → Some (passed + count_trailing_zeros 64 m) ≡ position (λ h. nat_eq h hash) array
  found some =
      let low = lowest hash block tail m few is some in
      position_at hash array (passed + count_trailing_zeros 64 m) (omega (arith, ap (first hash) both, low)) (omega (arith, ap length both, length-append block tail, low))

joined : (rest block tail : List ℕ) → block ≡ take 32 rest → tail ≡ drop 32 rest → rest ≡ block ++ tail
joined rest block tail front back = rw (front, back) (sym (take-append-drop 32 rest))

-- the mask of a part that ends where the array does is that of all that is left from `start` on
last_mask : (hash : ℕ) (array : List ℕ) (start end m : ℕ) → m ≡ mask hash (take (end - start) (drop start array)) → length array ≤ end → m ≡ mask hash (drop start array)
last_mask hash array start end m is whole = rw (take_all (end - start) (drop start array) (omega (arith, length-drop start array))) at is

pub returns-then-mask-ne0-clause-index : goal.returns-then-mask-ne0-clause-index
returns-then-mask-ne0-clause-index c =
    let l = c.loop-rest in let s = c.split_at in
    found c.args.hash c.args.array.now l.rest.now s.result.0.now s.result.1.now l.passed c.indices_of_block-mask.result l.invariant.index l.invariant.parted
    (joined _ _ _ s.ensures.front s.ensures.back) (omega arith) c.indices_of_block-mask.ensures c.if-mask-ne0.true

pub returns-then-mask-ne0-clause-within : goal.returns-then-mask-ne0-clause-within
returns-then-mask-ne0-clause-within c = position-within (λ h. nat_eq h c.args.hash) c.args.array.now _ (sym (returns-then-mask-ne0-clause-index c))

pub loop-rest-preserved : goal.loop-rest-preserved
loop-rest-preserved c =
    let l = c.loop-rest in let s = c.split_at in
    let after = later c.args.hash c.args.array.now l.rest.now s.result.0.now s.result.1.now l.passed c.indices_of_block-mask.result l.invariant.index l.invariant.parted
    (joined _ _ _ s.ensures.front s.ensures.back) (omega arith) c.indices_of_block-mask.ensures c.if-mask-ne0.false in
    record { parted = omega arith; index = omega (arith, after, s.ensures.front_len) }

-- the last block may begin among hashes that were searched before
pub returns-then-mask-eq0-clause-index : goal.returns-then-mask-eq0-clause-index
returns-then-mask-eq0-clause-index c =
    let hash = c.args.hash in let array = c.args.array.now in let start = c.min-start.result in
    nowhere_from hash array start (omega arith) (omega arith) (sym (last_mask hash array start _ _ c.indices_of_block-mask-2.ensures (omega arith)) ∙ c.if-mask-eq0.true)

pub returns-clause-index : goal.returns-clause-index
returns-clause-index c =
    let hash = c.args.hash in let array = c.args.array.now in let start = c.min-start.result in let rest = drop start array in
    found hash array rest rest [] start c.indices_of_block-mask-2.result (first_from hash array start (omega arith)) (omega (arith, length-drop start array))
    (sym (append-nil rest)) (omega (arith, length-drop start array)) (last_mask hash array start _ _ c.indices_of_block-mask-2.ensures (omega arith)) c.if-mask-eq0.false

pub returns-clause-within : goal.returns-clause-within
returns-clause-within c = position-within (λ h. nat_eq h c.args.hash) c.args.array.now _ (sym (returns-clause-index c))
