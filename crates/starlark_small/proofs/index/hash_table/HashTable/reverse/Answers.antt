use Rattle.starlark_hash.proofs.Common.{◌≡◌, ◌<◌, ◌∙◌, ap, arith, length, subst, sym, vec_capacity, reverse, All}
use Rattle.starlark_small.specs.Hashes.{reversed}
use Rattle.starlark_small.specs.Slots.{hashes_in}
use Rattle.starlark_table.specs.Table.{members}
use Rattle.starlark_small.proofs.Kept.{Keeps, indices-below, keeps-reversed, seen}
use Rattle.starlark_small.proofs.index.hash_table.HashTable.reverse.Goals as goal

pub reverse_each-requires-clause-within : goal.reverse_each-requires-clause-within
reverse_each-requires-clause-within c =
    let len : length c.self.inside.cells.0.items ≡ c.len.result = omega (arith, c.len.ensures, c.self.inside.cells.0.ok.0) in
    subst (λ n. All (λ m. m.1 < n) (members c.self.inside.table)) len (indices-below _ _ _ c.self.invariant)

kept : (c : goal.After-reverse) → Keeps (reverse (hashes_in c.self.inside.table.slots c.self.inside.cells.0.items)) c.self.inside.table.room c.reverse_each.new.table c.reverse.new.self.items (vec_capacity c.reverse.new.self)
kept c =
    subst (λ l. Keeps (reverse (hashes_in c.self.inside.table.slots c.self.inside.cells.0.items)) c.self.inside.table.room c.reverse_each.new.table l (vec_capacity c.reverse.new.self)) (sym c.reverse.ensures.items)
    (keeps-reversed _ _ _ c.self.invariant c.len.result c.reverse_each.new.table (vec_capacity c.reverse.new.self) (omega (arith, c.len.ensures, c.self.inside.cells.0.ok.0))
    c.reverse_each.ensures (omega (arith, c.reverse.ensures.capacity)))

pub invariant_of-self : goal.invariant_of-self
invariant_of-self c = (kept c).keeps

pub returns : goal.returns
returns c = seen _ _ _ _ _ (kept c) ∙ ap reversed c.self.view_is
