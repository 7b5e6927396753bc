use Rattle.starlark_hash.proofs.Common.{◌≡◌, length, map, take, drop, ◌++◌, sym, ap, subst, ◌∙◌, append-nil, arith, enumerate_from, range_with_len, IsStableBy, take_all, drop_all, common_steps, length-enumerate_from}
use Rattle.std.specs.List.Sorted.{IsPermutation}
use Rattle.starlark_vec2.specs.Sort.{PutsInOrder}
use Rattle.starlark_vec2.proofs.NumberedItems.{numbered_lt, numbered_lt-weak, sorted_by-numbered, items-numbered, cells-rearranged, Moves-noted}
use Rattle.starlark_vec2.proofs.vec2.Vec2.sort_pairs_with_moves_by.Goals as goal

pub note_moves-requires-clause-indices : goal.note_moves-requires-clause-indices
note_moves-requires-clause-indices g c =
    cells-rearranged c.args.self.now.pairs c.as_slice.result.now (length c.as_mut_slice.result.now) (omega (arith, c.as_mut_slice.ensures.len, c.in_ok-to.ensures.len, c.len-2.ensures.len))
    (rw (← c.in_ok-numbered.ensures.pairs, c.as_slice.ensures.value) c.sort_by-sorted.ensures.permutation)

pub put_numbered-requires-clause-room : goal.put_numbered-requires-clause-room
put_numbered-requires-clause-room g c =
    omega (arith, c.sort_by-sorted.ensures.len, ap length c.in_ok-numbered.ensures.pairs, length-enumerate_from 0 c.args.self.now.pairs, ap (λ v. v.capacity) c.in_ok-numbered.ensures.left, c.if-prove.false, c.len.ensures.len, c.capacity.ensures.capacity)

pub returns-in_err-sorted-clause-unchanged : goal.returns-in_err-sorted-clause-unchanged
returns-in_err-sorted-clause-unchanged g c =
    grind (arith, ap (λ v. v.pairs) c.put_numbered.ensures ∙ ap (map (λ p. p.1)) (c.in_err-sorted.ensures.err ∙ c.in_ok-numbered.ensures.pairs) ∙ items-numbered 0 c.args.self.now.pairs)

pub returns-clause-sorted : goal.returns-clause-sorted
returns-clause-sorted g c = λ lt weak told.
    let ys = c.sort_by-sorted.new.self.items in
    ap (λ v. v.pairs) c.put_numbered.ensures
    ∙ sorted_by-numbered lt weak c.args.self.now.pairs ys (c.in_ok-sorted.ensures.sorted (numbered_lt lt weak) (numbered_lt-weak lt weak) told)
    (subst (λ l. IsStableBy (numbered_lt lt weak) l ys) c.in_ok-numbered.ensures.pairs (c.sort_by-sorted.ensures.stable (numbered_lt lt weak) (numbered_lt-weak lt weak) told))

pub returns-clause-moves : goal.returns-clause-moves
returns-clause-moves g c =
    let xs = c.args.self.now.pairs in
    let ys = c.as_slice.result.now in
    let to = c.note_moves.new.to in
    let p : IsPermutation (enumerate_from 0 xs) ys = rw (← c.in_ok-numbered.ensures.pairs, c.as_slice.ensures.value) c.sort_by-sorted.ensures.permutation in
    let before : length c.as_mut_slice.result.now ≡ length xs = omega (arith, c.as_mut_slice.ensures.len, c.in_ok-to.ensures.len, c.len-2.ensures.len) in
    let after : length to ≡ length xs = c.note_moves.auto.to ∙ before in
    let told : PutsInOrder to (map (λ p. p.0) ys) (range_with_len 0 (length xs)) = rw before at c.note_moves.ensures in
    let written : take c.in_ok-to.to.len (to ++ drop (length to) c.in_ok-to.to.items) ≡ to =
    grind (arith, common_steps, drop_all, append-nil, take_all, after, c.in_ok-to.ensures.len, c.len-2.ensures.len, ap length c.as_mut_slice.ensures.value, c.as_mut_slice.ensures.len) in
    let put : map (λ p. p.1) ys ≡ c.put_numbered.new.self.pairs = ap (map (λ p. p.1)) c.as_slice.ensures.value ∙ sym (ap (λ v. v.pairs) c.put_numbered.ensures) in
    rw (written, ← put) (Moves-noted xs ys to p told after)
