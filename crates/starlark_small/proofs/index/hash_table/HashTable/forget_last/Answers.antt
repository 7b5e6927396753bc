use Rattle.starlark_hash.proofs.Common.{◌≡◌, ◌+◌, ◌-◌, ◌∙◌, ap, arith, length, subst, sym, vec_capacity, remove, take}
use Rattle.std.proofs.Common.{vec_len}
use Rattle.starlark_small.specs.Hashes.{forgotten}
use Rattle.starlark_small.specs.Slots.{hashes_in}
use Rattle.starlark_small.proofs.Kept.{Keeps, keeps-forgotten_last, length-hashes_in, seen, stands-named, view_of}
use Rattle.starlark_small.proofs.index.hash_table.HashTable.forget_last.Goals as goal

pub take_index-requires-clause-stands : goal.take_index-requires-clause-stands
take_index-requires-clause-stands c =
    stands-named _ _ _ c.self.invariant (c.len-last.result - 1)
    (omega (arith, c.requires, ap (λ h. length h.list) c.self.view_is, length-hashes_in c.self.inside.table.slots c.self.inside.cells.0.items, c.len-last.ensures, c.self.inside.cells.0.ok.0))

kept : (c : goal.After-pop) → Keeps (remove (hashes_in c.self.inside.table.slots c.self.inside.cells.0.items) (c.len-last.result - 1)) (c.self.inside.table.room + 1) c.take_index.new.table c.pop.new.self.items (vec_capacity c.pop.new.self)
kept c =
    let took = c.take_index.ensures in
    let after = c.take_index.new.cells.0 in
    let last = c.len-last.result - 1 in
    let end : last + 1 ≡ length c.self.inside.cells.0.items =
    omega (arith, c.requires, ap (λ h. length h.list) c.self.view_is, length-hashes_in c.self.inside.table.slots c.self.inside.cells.0.items, c.len-last.ensures, c.self.inside.cells.0.ok.0) in
    let same : last ≡ vec_len after - 1 = omega (arith, end, took.cells.even, after.ok.0) in
    subst (λ l. Keeps (remove (hashes_in c.self.inside.table.slots c.self.inside.cells.0.items) last) (c.self.inside.table.room + 1) c.take_index.new.table l (vec_capacity c.pop.new.self)) (ap (λ n. take n after.items) same ∙ sym c.pop.ensures.rest)
    (keeps-forgotten_last _ _ _ c.self.invariant last (omega (arith, end)) c.take_index.new.table after.items took.cells.even took.cells.sited took.taken took.slots took.room
    (vec_capacity c.pop.new.self) end (omega (arith, took.cells.spare, c.pop.ensures.capacity)))

pub invariant_of-self : goal.invariant_of-self
invariant_of-self c = (kept c).keeps

pub returns : goal.returns
returns c =
    let old = view_of c.self.inside.table c.self.inside.cells.0.items in
    let last : c.len-last.result - 1 ≡ length old.list - 1 = omega (arith, c.len-last.ensures, c.self.inside.cells.0.ok.0, length-hashes_in c.self.inside.table.slots c.self.inside.cells.0.items) in
    seen _ _ _ _ _ (kept c) ∙ ap (λ i. forgotten i old) last ∙ ap (λ h. forgotten (length h.list - 1) h) c.self.view_is
