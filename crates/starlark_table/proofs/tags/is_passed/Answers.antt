use Rattle.starlark_hash.proofs.Common.{ℕ, List, length, ◌≡◌, ◌≢◌, ◌≤◌, ◌+◌, ◌-◌, ◌/◌, ◌^◌, ◌<◌, arith, sym, ◌∙◌, ap, eq-eqb, nat_tests, false≢true, count_trailing_zeros}
use Rattle.std.specs.Int.Count.{trailing_of_zero}
use Rattle.starlark_table.specs.Layout.{tag_bits, IsBetweenEmpty}
use Rattle.starlark_table.proofs.TagBits.{FirstTagged, first-by_bits, tag_bits-later}
use Rattle.starlark_table.proofs.tags.is_passed.Goals as goal

-- an empty slot before a full one, and the first empty one behind it, enclose it
between : (tags : List ℕ) (slot k from n j : ℕ) → slot + 1 + 16 ≤ length tags → FirstTagged 255 tags (slot + 1) 16 k → FirstTagged 255 tags from n j
    → from + j < slot → slot + 1 + k ≤ from + j + 17 → IsBetweenEmpty tags slot
between tags slot k from n j room high low before short = grind (arith, from + j, slot + 1 + k)

pub returns-then-slot-ge-WINDOW : goal.returns-then-slot-ge-WINDOW
returns-then-slot-ge-WINDOW c = λ said.
    let tags = c.args.tags.now in
    let slot = c.args.slot in
    let k : ℕ = count_trailing_zeros 64 c.slots_with-behind.result in
    let high = first-by_bits 255 tags (slot + 1) 16 _ c.slots_with-behind.ensures (omega arith) c.if-behind-eq0.false in
    let near = high.within in
    let long = c.if-slot-ge-WINDOW.true in
    let later : c.slots_with.result / 2 ^ k ≡ tag_bits 255 tags (slot - 16 + k) (16 - k) =
    rw c.slots_with.ensures (tag_bits-later 255 tags (slot - 16) k (16 - k) (slot - 16 + k) 16 (omega (arith, near)) (omega arith)) in
    let low = first-by_bits 255 tags (slot - 16 + k) (16 - k) _ later (omega arith) (λ none. false≢true (sym said ∙ eq-eqb _ 0 none)) in
    let short = low.within in
    between tags slot k _ _ _ c.requires.room high low (omega (arith, short, near, long)) (omega (arith, long))

pub returns-then-end-le-WINDOW : goal.returns-then-end-le-WINDOW
returns-then-end-le-WINDOW c = λ said.
    let tags = c.args.tags.now in
    let slot = c.args.slot in
    let high = first-by_bits 255 tags (slot + 1) 16 _ c.slots_with-behind.ensures (omega arith) c.if-behind-eq0.false in
    let low : ℕ = count_trailing_zeros 64 c.slots_with-before.result in
    let end = c.if-end-le-WINDOW.true in
    let less : low < slot = grind (arith, nat_tests, said) in
    let some : c.slots_with-before.result ≢ 0 = λ none.
    let z : low ≡ 64 = ap (count_trailing_zeros 64) none ∙ trailing_of_zero 64 in omega (arith, z, less, end) in
    let first = first-by_bits 255 tags 0 16 _ c.slots_with-before.ensures (omega arith) some in
    between tags slot _ 0 _ low c.requires.room high first (omega (arith, less)) (omega (arith, end))

pub slots_with-requires-2 : goal.slots_with-requires-2
slots_with-requires-2 c =
    let high = first-by_bits 255 c.args.tags.now (c.args.slot + 1) 16 _ c.slots_with-behind.ensures (omega arith) c.if-behind-eq0.false in
    let within = high.within in
    omega (arith, c.requires.room, within, c.if-end-le-WINDOW.false)

pub returns : goal.returns
returns c = λ said.
    let tags = c.args.tags.now in
    let slot = c.args.slot in
    let k : ℕ = count_trailing_zeros 64 c.slots_with-behind.result in
    let high = first-by_bits 255 tags (slot + 1) 16 _ c.slots_with-behind.ensures (omega arith) c.if-behind-eq0.false in
    let end = c.if-end-le-WINDOW.false in
    let from : ℕ = slot + 1 + k - 1 - 16 in
    let j : ℕ = count_trailing_zeros 64 c.slots_with-2.result in
    let low = first-by_bits 255 tags from 16 _ c.slots_with-2.ensures (omega arith) (λ none. false≢true (sym said ∙ eq-eqb _ 0 none)) in
    let short = low.within in
    let below : from + j < slot = grind (arith, c.requires.full, low.there, high.before (from + j)) in
    between tags slot k from _ j c.requires.room high low below (omega (arith, end))
