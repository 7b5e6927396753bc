-- The numbered hashes of a list, and what a table says that has them as its members.
use Rattle.starlark_hash.proofs.Common.{common_steps, ◌≡◌, ◌≢◌, ℕ, zero, suc, ◌+◌, ◌-◌, ◌<◌, ◌≤◌, Bool, false, nat_eq, List, [], ◌∷◌, ◌++◌, length, map, get_or, take, Option, Some, None, refl, sym, ap, subst, ◌∙◌, arith, IsPermutation, filter, remove, reverse, slice_get, slice_index, All, Contains, range_with_len, nat_tests, get_or-map, length-map, length-reverse, reverse-append, length-range_with_len, IsPermutation-sym, IsPermutation-trans, IsPermutation-cons, IsPermutation-map, IsPermutation-reverse, All-permutation, Contains-permutation, length_permutation, get_or_from_slice_get, slice_get_within, true, cond, eq-eqb, get_or_default}
use Rattle.std.proofs.lemmas.List.{ext_get_or, take_more}
use Rattle.std.proofs.lemmas.List.FromFn.{get_or-map-range_with_len}
use Rattle.std.proofs.lemmas.List.Sums.{get_or-le-sum_by, length-filter}
use Rattle.std.proofs.lemmas.List.Sorted.{IsPermutation-to_front, IsPermutation-remove}
use Rattle.std.proofs.lemmas.Map.Keys.{IsDistinct-IsPermutation, IsDistinct-tail, IsDistinct-from_apart, apart_from_distinct}
use Rattle.std.proofs.lemmas.Map.Made.{Contains-tail}
use Rattle.std.specs.List.{IsDistinct}
use Rattle.starlark_table.specs.Table.{Table, filled, items_under, members, member_at, table_len}
use Rattle.starlark_table.proofs.PairBags.{IsPermutation-cancel}
use Rattle.starlark_table.proofs.TableLemmas.{items-items_under, members-member_at}
use Rattle.starlark_table.proofs.Bag.{in_filled}
use Rattle.starlark_vec2.specs.Sort.{Moves}
use Rattle.starlark_small.specs.Hashes.{numbered, numbered_from}
use Rattle.starlark_small.specs.Slots.{IsSited, StandsOnce, hash_in, hashes_in, lowered, renamed, renaming}

-- ---- the numbered hashes
pub numbered-append : (n : ℕ) (hs ks : List ℕ) → numbered_from n (hs ++ ks) ≡ numbered_from n hs ++ numbered_from (n + length hs) ks
numbered-append n [] ks = grind arith
numbered-append n (h ∷ hs) ks = grind (arith, common_steps, numbered-append (n + 1) hs ks)

length-numbered : (n : ℕ) (hs : List ℕ) → length (numbered_from n hs) ≡ length hs
length-numbered n [] = refl
length-numbered n (h ∷ hs) = ap suc (length-numbered (n + 1) hs)

get_or-numbered : (n k : ℕ) (hs : List ℕ) (d : ℕ × ℕ) → k < length hs → get_or (numbered_from n hs) k d ≡ (get_or hs k 0, n + k)
get_or-numbered n k [] d below = absurd (omega arith)
get_or-numbered n zero (h ∷ hs) d below = grind arith
get_or-numbered n (suc k) (h ∷ hs) d below = grind (arith, get_or-numbered (n + 1) k hs d)

pub at-numbered : (hs : List ℕ) (k : ℕ) (d : ℕ × ℕ) → k < length hs → get_or (numbered hs) k d ≡ (get_or hs k 0, k)
at-numbered hs k d below = grind (arith, get_or-numbered 0 k hs d)

pub below-all : (hs : List ℕ) → All (λ m. m.1 < length hs) (numbered hs)
below-all hs = λ k d lt. omega (arith, length-numbered 0 hs, ap (λ m. m.1) (at-numbered hs k d (omega (arith, length-numbered 0 hs))))

-- all behind an index are decremented
sunk : (last n : ℕ) (hs : List ℕ) → last ≤ n → map (renaming (lowered last)) (numbered_from (n + 1) hs) ≡ numbered_from n hs
sunk last n [] le = refl
sunk last n (h ∷ hs) le = grind (arith, nat_tests, sunk last (n + 1) hs)

pub numbered_from-remove : (n k x : ℕ) (hs : List ℕ) → n + k ≡ x → k < length hs → map (renaming (lowered x)) (remove (numbered_from n hs) k) ≡ numbered_from n (remove hs k)
numbered_from-remove n k x [] is below = absurd (omega arith)
numbered_from-remove n zero x (h ∷ hs) is below = sunk x n hs (omega arith)
numbered_from-remove n (suc k) x (h ∷ hs) is below = grind (arith, nat_tests, numbered_from-remove (n + 1) k x hs)

pub numbered_from-remove_last : (n k : ℕ) (hs : List ℕ) → k + 1 ≡ length hs → remove (numbered_from n hs) k ≡ numbered_from n (remove hs k)
numbered_from-remove_last n k [] end = absurd (omega (arith, end))
numbered_from-remove_last n zero (h ∷ hs) end = grind (arith, common_steps)
numbered_from-remove_last n (suc k) (h ∷ hs) end = ap (λ l. (h, n) ∷ l) (numbered_from-remove_last (n + 1) k hs (omega (arith, end)))

reversed_from : (n len : ℕ) (hs : List ℕ) → len ≡ n + length hs → map (renaming (λ i. len - 1 - i)) (numbered_from n hs) ≡ reverse (numbered (reverse hs))
reversed_from n len [] is = refl
reversed_from n len (h ∷ hs) is =
    grind (arith, length-reverse hs, reversed_from (n + 1) len hs, numbered-append 0 (reverse hs) (h ∷ []), reverse-append (numbered (reverse hs)) ((h, length (reverse hs)) ∷ []), reverse-append (h ∷ []) hs)

pub numbered-reverse : (hs : List ℕ) → IsPermutation (numbered (reverse hs)) (map (renaming (λ i. length hs - 1 - i)) (numbered hs))
numbered-reverse hs = subst (IsPermutation (numbered (reverse hs))) (sym (reversed_from 0 (length hs) hs (omega arith))) (IsPermutation-reverse (numbered (reverse hs)))

-- ---- each hash goes where a list says
pub length-moved : (before : List ℕ) (to : List ℕ) (after : List ℕ) → Moves before to after → (length to ≡ length before) × (length after ≡ length before)
length-moved before to after moves =
    let names : length to ≡ length before = simp length-map at (sym (ap length moves.items)) in
    (names, grind (arith, length_permutation (range_with_len 0 (length after)) to moves.once, length-range_with_len 0 (length after)))

pub numbered-moved : (before to after : List ℕ) → Moves before to after → IsPermutation (numbered after) (map (renaming (slice_index to)) (numbered before))
numbered-moved before to after moves =
    let under : ℕ → ℕ × ℕ = λ k. (get_or after k 0, k) in
    let long = (length-moved before to after moves).0 in
    let same : numbered after ≡ map under (range_with_len 0 (length after)) =
    ext_get_or (0, 0) (numbered after) (map under (range_with_len 0 (length after))) (grind (arith, length-numbered 0 after, length-map, length-range_with_len)) (λ i lt.
    grind (arith, length-numbered 0 after, at-numbered after i (0, 0), get_or-map-range_with_len under 0 (length after) i i (0, 0))) in
    let went : map (renaming (slice_index to)) (numbered before) ≡ map under to =
    ext_get_or (0, 0) (map (renaming (slice_index to)) (numbered before)) (map under to) (grind (arith, length-numbered 0 before, length-map)) (λ i lt.
    let inside : i < length before = grind (arith, length-numbered 0 before, length-map) in
    let there : Some (get_or before i 0) ≡ slice_get after (get_or to i 0) = grind (arith, moves.items, get_or-map Some before i 0 None, get_or-map (slice_get after) to i 0 None) in
    grind (arith, length-numbered 0 before, get_or-map, at-numbered before i (0, 0), get_or_from_slice_get after (get_or to i 0) (get_or before i 0) 0)) in
    rw (same, went) (IsPermutation-map under (range_with_len 0 (length after)) to moves.once)

-- ---- no index stands twice
abbrev same_index : ℕ × ℕ → ℕ × ℕ → Bool
same_index m k = nat_eq m.1 k.1

distinct : (hs : List ℕ) → IsDistinct same_index (numbered hs)
distinct hs = IsDistinct-from_apart same_index (numbered hs) (λ i j d before below.
    grind (arith, nat_tests, length-numbered 0 hs, at-numbered hs i d, at-numbered hs j d))

behind : (m : ℕ × ℕ) (ms : List (ℕ × ℕ)) (n : ℕ × ℕ) → IsDistinct same_index (m ∷ ms) → Contains ms n → nat_eq m.1 n.1 ≡ false
behind m ms n distinct (k, below, is) = grind (arith, nat_tests, apart_from_distinct same_index (m ∷ ms) 0 (suc k) n distinct (omega arith) (omega arith))

-- the members of two slots have different indices
apart : (slots : List (Option (ℕ × ℕ))) (s u h k x : ℕ) → IsDistinct same_index (filled slots) → s < u → get_or slots s None ≡ Some (h, x) → get_or slots u None ≡ Some (k, x) → ⊥
apart [] s u h k x once below is also = cc
apart (None ∷ slots) zero u h k x once below is also = cc
apart (o ∷ slots) s zero h k x once below is also = absurd (omega arith)
apart (Some m ∷ slots) zero (suc u) h k x once below is also = grind (arith, nat_tests, behind m (filled slots) (k, x) once (in_filled slots u (k, x) also))
apart (None ∷ slots) (suc s) (suc u) h k x once below is also = apart slots s u h k x once (omega arith) is also
apart (Some m ∷ slots) (suc s) (suc u) h k x once below is also = apart slots s u h k x (IsDistinct-tail same_index m (filled slots) once) (omega arith) is also

-- ---- a table whose members they are
in_slots : (slots : List (Option (ℕ × ℕ))) (m : ℕ × ℕ) → Contains (filled slots) m → (s : ℕ) × (get_or slots s None ≡ Some m)
in_slots [] m there = absurd (omega (arith, there.1))
in_slots (None ∷ slots) m there = let r = in_slots slots m there in (suc r.0, r.1)
in_slots (Some x ∷ slots) m (zero, below, is) = (0, ap Some is)
in_slots (Some x ∷ slots) m (suc k, below, is) = let r = in_slots slots m (k, omega arith, is) in (suc r.0, r.1)

-- the member in the slot that the cell of an index names
pub named-there : (cells : List ℕ) (t : Table ℕ) (h x : ℕ) → IsSited cells t.slots → Contains (members t) (h, x) → member_at t (get_or cells x 0) ≡ Some (h, x)
named-there cells t h x sited there =
    let it = in_slots t.slots (h, x) there in ap (member_at t) (sited.named it.0 h x it.1) ∙ it.1

module _ (hs : List ℕ) (t : Table ℕ) (bag : IsPermutation (numbered hs) (members t)) where
  pub members-count : table_len t ≡ length hs
  members-count = length_permutation (numbered hs) (members t) bag ∙ length-numbered 0 hs

  pub members-below : All (λ m. m.1 < length hs) (members t)
  members-below = All-permutation (λ m. m.1 < length hs) (numbered hs) (members t) bag (below-all hs)

  pub held : (i : ℕ) → i < length hs → Contains (members t) (get_or hs i 0, i)
  held i below =
      let m : ℕ × ℕ = (get_or hs i 0, i) in
      Contains-permutation (numbered hs) (members t) m bag (i, omega (arith, below, length-numbered 0 hs), at-numbered hs i m below)

  pub stands-once : StandsOnce t.slots
  stands-once =
      let once = IsDistinct-IsPermutation same_index (λ m k. grind (arith, nat_tests)) (numbered hs) (members t) bag (distinct hs) in
      record { once = λ s u h k x is also. grind (arith, apart t.slots s u h k x once, apart t.slots u s k h x once) }

  -- the hashes that the cells name are these
  pub hashes-back : (cells : List ℕ) → length cells ≡ length hs → IsSited cells t.slots → hashes_in t.slots cells ≡ hs
  hashes-back cells long sited =
      let count = length-map cells (λ s. hash_in (get_or t.slots s None)) in
      ext_get_or 0 (hashes_in t.slots cells) hs (count ∙ long) (λ i lt. grind (arith, get_or-map (λ s. hash_in (get_or t.slots s None)) cells i 0 0, named-there cells t (get_or hs i 0) i sited, held i))

  -- what is left after an index was removed
  module _ (k : ℕ) (below : k < length hs) (mid : Table ℕ) (taken : IsPermutation (members t) ((get_or hs k 0, k) ∷ members mid)) where
    pub left-bag : IsPermutation (remove (numbered hs) k) (members mid)
    left-bag =
        let x : ℕ × ℕ = (get_or hs k 0, k) in
        let apart = IsPermutation-remove (numbered hs) k x (omega (arith, below, length-numbered 0 hs)) (sym (at-numbered hs k x below)) in
        IsPermutation-cancel x (remove (numbered hs) k) (members mid) (IsPermutation-trans _ _ _ (IsPermutation-trans _ _ _ (IsPermutation-sym _ _ apart) bag) taken)

    pub left-none : (s h x : ℕ) → member_at mid s ≡ Some (h, x) → x ≢ k
    left-none s h x is same =
        let m : ℕ × ℕ = (get_or hs k 0, k) in
        let once = IsDistinct-IsPermutation same_index (λ m k. grind (arith, nat_tests)) (numbered hs) (m ∷ members mid) (IsPermutation-trans (numbered hs) (members t) (m ∷ members mid) bag taken) (distinct hs) in
        grind (arith, nat_tests, behind m (members mid) (h, x) once (members-member_at mid s (h, x) is))

    pub left-there : (cells : List ℕ) → IsSited cells mid.slots → (i : ℕ) → i < length hs → i ≢ k → member_at mid (get_or cells i 0) ≡ Some (get_or hs i 0, i)
    left-there cells sited i inside apart =
        let m : ℕ × ℕ = (get_or hs k 0, k) in
        let n : ℕ × ℕ = (get_or hs i 0, i) in
        named-there cells mid (get_or hs i 0) i sited
        (Contains-tail m (members mid) n (λ same. apart (sym (ap (λ m. m.1) same))) (Contains-permutation (members t) (m ∷ members mid) n taken (held i inside)))

  -- a hash under which the table has no member is not in the list
  pub none-under : (hash : ℕ) → items_under hash t ≡ [] → All (λ h. h ≢ hash) hs
  none-under hash none k d below same =
      let q : ℕ × ℕ → Bool = λ m. nat_eq m.0 hash in
      let m : ℕ × ℕ = (get_or hs k 0, k) in
      let there = held k below in
      let passes : q (get_or (members t) there.0 m) ≡ true = rw there.2 (eq-eqb (get_or hs k 0) hash (get_or_default hs k 0 d below ∙ same)) in
      let nothing : length (filter q (members t)) ≡ 0 = grind (arith, length-map, ap length (items-items_under hash t), ap length none) in
      omega (arith, nothing, length-filter q (members t), rw passes at (get_or-le-sum_by (λ m. cond (q m) 1 0) (members t) there.0 m there.1))

-- the members after each index was replaced
pub filled-renamed : (name : ℕ → ℕ) (slots : List (Option (ℕ × ℕ))) → filled (renamed name slots) ≡ map (renaming name) (filled slots)
filled-renamed name [] = refl
filled-renamed name (None ∷ slots) = filled-renamed name slots
filled-renamed name (Some m ∷ slots) = ap (λ l. renaming name m ∷ l) (filled-renamed name slots)

pub bag-renamed : (name : ℕ → ℕ) (hs : List (ℕ × ℕ)) (ks : List ℕ) (old new : Table ℕ) → IsPermutation hs (members old) → IsPermutation (numbered ks) (map (renaming name) hs) → new.slots ≡ renamed name old.slots
    → IsPermutation (numbered ks) (members new)
bag-renamed name hs ks old new bag same is =
    rw (is, filled-renamed name old.slots) (IsPermutation-trans (numbered ks) (map (renaming name) hs) (map (renaming name) (members old)) same (IsPermutation-map (renaming name) hs (members old) bag))

-- one more hash
pub bag-noted : (hs : List ℕ) (h x : ℕ) (old new : Table ℕ) → x ≡ length hs → IsPermutation (numbered hs) (members old) → IsPermutation ((h, x) ∷ members old) (members new) → IsPermutation (numbered (hs ++ h ∷ [])) (members new)
bag-noted hs h x old new last bag added =
    let m : ℕ × ℕ = (h, x) in
    let is : numbered (hs ++ h ∷ []) ≡ numbered hs ++ m ∷ [] = grind (arith, numbered-append 0 hs (h ∷ [])) in
    rw is (IsPermutation-trans _ _ _ (IsPermutation-trans _ _ _ (IsPermutation-to_front (numbered hs) m) (IsPermutation-cons m (numbered hs) (members old) bag)) added)

-- one more item
pub take-more : {X : Type 0} (i : ℕ) (xs : List X) (x : X) → slice_get xs i ≡ Some x → take (i + 1) xs ≡ take i xs ++ x ∷ []
take-more i xs x at = take_more xs i x (slice_get_within xs i x at) ∙ ap (λ z. take i xs ++ z ∷ []) (get_or_from_slice_get xs i x x at)
