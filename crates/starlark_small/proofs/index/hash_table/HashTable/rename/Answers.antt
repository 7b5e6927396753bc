use Rattle.starlark_hash.proofs.Common.{common_steps, ◌<◌, ℕ, List, arith, subst, sym, vec_capacity, All}
use Rattle.starlark_table.specs.Table.{members}
use Rattle.starlark_vec2.specs.Sort.{Moves}
use Rattle.starlark_small.proofs.Kept.{Keeps, indices-below, keeps-moved, moved-below, moved-once, moved-to}
use Rattle.starlark_small.proofs.index.hash_table.HashTable.rename.Goals as goal

pub rename_each-requires : goal.rename_each-requires
rename_each-requires c =
    let moves = subst (λ h. Moves h.list c.args.to.now c.requires.0) (sym c.self.view_is) c.requires.1 in
    subst (λ n. All (λ m. m.1 < n) (members c.self.inside.table)) (sym (moved-to _ _ _ c.self.invariant c.args.to.now c.requires.0 moves)) (indices-below _ _ _ c.self.invariant)

pub name_slots-requires : goal.name_slots-requires
name_slots-requires c =
    let moves = subst (λ h. Moves h.list c.args.to.now c.requires.0) (sym c.self.view_is) c.requires.1 in
    record {
      below = moved-below _ _ _ c.self.invariant c.args.to.now c.requires.0 moves c.rename_each.new.table c.rename_each.ensures;
      once = moved-once _ _ _ c.self.invariant c.args.to.now c.requires.0 moves c.rename_each.new.table c.rename_each.ensures;
      few = grind (arith, common_steps);
    }

kept : (c : goal.After-name_slots) (list : List ℕ) → Moves c.args.self.now.list c.args.to.now list → Keeps list c.self.inside.table.room c.rename_each.new.table c.name_slots.new.cells.items (vec_capacity c.name_slots.new.cells)
kept c list moved =
    let named = c.name_slots.ensures in
    keeps-moved _ _ _ c.self.invariant c.args.to.now list (subst (λ h. Moves h.list c.args.to.now list) (sym c.self.view_is) moved) c.rename_each.new.table c.rename_each.ensures
    _ _ named.sited named.even (omega (arith, named.spare))

pub invariant_of-self : goal.invariant_of-self
invariant_of-self c = (kept c _ c.requires.1).keeps

pub returns-clause-list : goal.returns-clause-list
returns-clause-list c list moved = (kept c list moved).list
