use Rattle.starlark_hash.proofs.Common.{rules, arith, ap, ◌∙◌, length, append-nil, IsPermutation, length_permutation}
use Rattle.starlark_table.specs.Table.{members, table_capacity}
use Rattle.starlark_table.proofs.ready_table.ReadyTable.grow.Goals as goal

pub returns : goal.returns
returns g c =
    let larger = c.in_ok-larger.ensures in
    let taken = c.take_members.ensures in
    let bag : IsPermutation (members c.args.self.now) (members c.take_members.new.self) =
    rw (c.replace-old.ensures.value, c.replace-old.ensures.after, larger.empty, append-nil) at taken.added in
    let as_many = length_permutation _ _ bag in
    let as_much = taken.room ∙ ap table_capacity c.replace-old.ensures.after in
    let none = ap length larger.empty in
    record {
      ok = omega (arith, as_many, as_much, none, larger.room);
      most = search rules;
      room = omega (arith, as_many, as_much, none, larger.room, c.requires);
      bag = bag;
      unchanged = search rules;
    }
