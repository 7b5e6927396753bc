use Rattle.starlark_hash.proofs.Common.{◌≡◌, ◌≤◌, length, map}
use Rattle.starlark_table.specs.Table.{members, table_capacity}
use Rattle.starlark_unordered.specs.MapValues.{CanMapValues}
use Rattle.starlark_unordered.proofs.ValueMapping.{Goes}
use Rattle.starlark_unordered.proofs.map_values.map_members.Given as goal

abbrev pub invariant-loop-hash : goal.invariant-loop-hash
invariant-loop-hash g l = record {
  room : length l.walk ≤ l.mapped.room;
  same : table_capacity l.mapped ≡ table_capacity l.initial.mapped;
  callable : CanMapValues g.F.FnMut (map (λ m. m.1) l.walk) l.f;
  goes : Goes g.F.FnMut l.initial.f l.initial.walk (members l.initial.mapped) l.f l.walk (members l.mapped);
}

abbrev pub decreases-loop-hash : goal.decreases-loop-hash
decreases-loop-hash g l = length l.walk
