use Rattle.starlark_hash.proofs.Common.{◌<◌, ◌∙◌, ap, append-nil, arith, length, rules, subst, sym, vec_capacity, IsPermutation, All, length_permutation}
use Rattle.starlark_table.specs.Table.{members, table_capacity}
use Rattle.starlark_small.specs.Slots.{hashes_in}
use Rattle.starlark_small.proofs.Kept.{Keeps, grown-below, grown-once, keeps-grown, length-hashes_in}
use Rattle.starlark_small.proofs.index.hash_table.HashTable.grow.Goals.{After-take_members}
use Rattle.starlark_small.proofs.index.hash_table.HashTable.grow.Goals as goal

-- what the empty table took in
moved : (c : After-take_members) → IsPermutation (members c.self.inside.table) (members c.take_members.new.self)
moved c = rw (c.swap.ensures.x_after, c.swap.ensures.y_after, c.in_ok-old.ensures.empty, append-nil) at c.take_members.ensures.added

pub name_slots-requires-clause-below : goal.name_slots-requires-clause-below
name_slots-requires-clause-below c =
    subst (λ l. All (λ m. m.1 < length l) (members c.take_members.new.self)) (sym c.in_ok-reserve_exact.ensures.items)
    (grown-below _ _ _ c.self.invariant c.take_members.new.self (moved (goal.at.name_slots-requires-clause-below c).After-take_members))

pub name_slots-requires-clause-once : goal.name_slots-requires-clause-once
name_slots-requires-clause-once c = grown-once _ _ _ c.self.invariant c.take_members.new.self (moved (goal.at.name_slots-requires-clause-once c).After-take_members)

pub name_slots-requires-clause-few : goal.name_slots-requires-clause-few
name_slots-requires-clause-few c =
    omega (arith, c.take_members.ensures.slots, ap (λ t. length t.slots) c.swap.ensures.x_after, c.in_ok-old.ensures.fewest 29 (omega (arith, c.if-needed-gt-LONGEST.false)))

kept : (c : goal.After-name_slots) → Keeps (hashes_in c.self.inside.table.slots c.self.inside.cells.0.items) c.take_members.new.self.room c.take_members.new.self c.name_slots.new.cells.items (vec_capacity c.name_slots.new.cells)
kept c =
    let none = ap length c.in_ok-old.ensures.empty in
    let more : table_capacity c.self.inside.table < c.args.needed =
    omega (arith, c.requires, ap (λ h. length h.list) c.self.view_is, ap (λ h. h.room) c.self.view_is, length-hashes_in c.self.inside.table.slots c.self.inside.cells.0.items, c.self.invariant.even) in
    let room = c.take_members.ensures.room ∙ ap table_capacity c.swap.ensures.x_after in
    let slots = c.take_members.ensures.slots ∙ ap (λ t. length t.slots) c.swap.ensures.x_after in
    keeps-grown _ _ _ c.self.invariant c.take_members.new.self (moved (goal.at.returns c).After-take_members) _ _ c.name_slots.ensures.sited (c.name_slots.ensures.even ∙ ap length c.in_ok-reserve_exact.ensures.items)
    (omega (arith, room, none, c.name_slots.ensures.spare, c.in_ok-reserve_exact.ensures.capacity_exact, c.in_ok-reserve_exact.ensures.len, c.room.ensures, c.len.ensures, c.in_ok-old.ensures.room, more, c.self.invariant.tight))
    (omega (arith, slots, c.in_ok-old.ensures.room, c.in_ok-old.ensures.load, c.requires), omega (arith, slots, c.in_ok-old.ensures.fewest 29 (omega (arith, c.if-needed-gt-LONGEST.false))))
    (omega (arith, room, none, c.in_ok-old.ensures.load, c.in_ok-old.ensures.fewest 29 (omega (arith, c.if-needed-gt-LONGEST.false))))

pub invariant_of-self-2 : goal.invariant_of-self-2
invariant_of-self-2 c = (kept c).keeps

pub returns : goal.returns
returns c =
    let count = length_permutation _ _ (moved (goal.at.returns c).After-take_members) in
    let room = c.take_members.ensures.room ∙ ap table_capacity c.swap.ensures.x_after in
    record {
      made = omega (arith, room, ap length c.in_ok-old.ensures.empty, count, c.in_ok-old.ensures.room, c.self.invariant.even, length-hashes_in c.self.inside.table.slots c.self.inside.cells.0.items, ap (λ h. length h.list) c.self.view_is);
      most = omega (arith, room, ap length c.in_ok-old.ensures.empty, count, c.in_ok-old.ensures.most, c.self.invariant.even, length-hashes_in c.self.inside.table.slots c.self.inside.cells.0.items, ap (λ h. length h.list) c.self.view_is);
      list = (kept c).list ∙ ap (λ h. h.list) c.self.view_is;
      unchanged = search rules;
    }
