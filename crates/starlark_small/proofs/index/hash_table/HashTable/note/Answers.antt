use Rattle.starlark_hash.proofs.Common.{◌++◌, ◌∷◌, [], ◌-◌, ◌∙◌, ap, arith, vec_capacity}
use Rattle.starlark_small.specs.Hashes.{hash_under, noted}
use Rattle.starlark_small.specs.Slots.{hashes_in}
use Rattle.starlark_small.proofs.Kept.{Keeps, keeps-noted, seen}
use Rattle.starlark_small.proofs.index.hash_table.HashTable.note.Goals as goal

kept : (c : goal.After-push_reserved) → Keeps (hashes_in c.self.inside.table.slots c.self.inside.cells.0.items ++ hash_under c.args.hash ∷ []) (c.self.inside.table.room - 1) c.insert_reserved-slot.new.self c.push_reserved.new.self.items (vec_capacity c.push_reserved.new.self)
kept c =
    let put = c.insert_reserved-slot in
    keeps-noted _ _ _ c.self.invariant put.new.self _ _ _ put.result _ c.push_reserved.ensures.items (omega (arith, c.push_reserved.ensures.capacity)) (omega (arith, c.len-index.ensures, c.self.inside.cells.0.ok.0))
    put.ensures.within put.ensures.slots put.ensures.added put.ensures.room (omega (arith, c.requires, ap (λ h. h.room) c.self.view_is))

pub invariant_of-self : goal.invariant_of-self
invariant_of-self c = (kept c).keeps

pub returns-clause-noted : goal.returns-clause-noted
returns-clause-noted c = seen _ _ _ _ _ (kept c) ∙ ap (noted c.args.hash) c.self.view_is
