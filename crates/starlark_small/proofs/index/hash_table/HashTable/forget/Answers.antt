use Rattle.starlark_hash.proofs.Common.{◌+◌, ◌<◌, ◌∙◌, ap, arith, length, subst, sym, vec_capacity, remove}
use Rattle.starlark_small.specs.Hashes.{forgotten}
use Rattle.starlark_small.specs.Slots.{hashes_in}
use Rattle.starlark_small.proofs.Kept.{Keeps, keeps-forgotten, length-hashes_in, seen, stands-but, stands-named}
use Rattle.starlark_small.proofs.index.hash_table.HashTable.forget.Goals as goal

pub take_index-requires-clause-stands : goal.take_index-requires-clause-stands
take_index-requires-clause-stands c =
    stands-named _ _ _ c.self.invariant c.args.index (omega (arith, c.requires, ap (λ h. length h.list) c.self.view_is, length-hashes_in c.self.inside.table.slots c.self.inside.cells.0.items))

pub lower_above-requires-clause-stands : goal.lower_above-requires-clause-stands
lower_above-requires-clause-stands c =
    let took = c.take_index.ensures in
    let inside : c.args.index < length c.self.inside.cells.0.items = omega (arith, c.requires, ap (λ h. length h.list) c.self.view_is, length-hashes_in c.self.inside.table.slots c.self.inside.cells.0.items) in
    stands-but _ _ _ c.self.invariant c.args.index inside c.take_index.new.table _ took.cells.even took.cells.sited took.taken took.slots took.room

kept : (c : goal.After-remove) → Keeps (remove (hashes_in c.self.inside.table.slots c.self.inside.cells.0.items) c.args.index) (c.self.inside.table.room + 1) c.lower_above.new.table c.remove.new.self.items (vec_capacity c.remove.new.self)
kept c =
    let took = c.take_index.ensures in
    let inside : c.args.index < length c.self.inside.cells.0.items = omega (arith, c.requires, ap (λ h. length h.list) c.self.view_is, length-hashes_in c.self.inside.table.slots c.self.inside.cells.0.items) in
    subst (λ l. Keeps (remove (hashes_in c.self.inside.table.slots c.self.inside.cells.0.items) c.args.index) (c.self.inside.table.room + 1) c.lower_above.new.table l (vec_capacity c.remove.new.self)) (sym c.remove.ensures.items)
    (keeps-forgotten _ _ _ c.self.invariant c.args.index inside c.take_index.new.table _ took.cells.even took.cells.sited took.taken took.slots took.room
    c.lower_above.new.table (vec_capacity c.remove.new.self) c.lower_above.ensures (omega (arith, took.cells.spare, c.remove.ensures.capacity)))

pub invariant_of-self : goal.invariant_of-self
invariant_of-self c = (kept c).keeps

pub returns : goal.returns
returns c = seen _ _ _ _ _ (kept c) ∙ ap (forgotten c.args.index) c.self.view_is
