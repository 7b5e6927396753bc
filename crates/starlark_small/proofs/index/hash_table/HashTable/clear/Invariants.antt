use Rattle.starlark_hash.proofs.Common.{◌≡◌, ◌+◌, length}
use Rattle.starlark_small.proofs.index.hash_table.HashTable.clear.Given as goal

abbrev pub invariant-loop-i : goal.invariant-loop-i
invariant-loop-i l = record {
  left : length l.self.list + l.i ≡ length l.fn.self.list;
  room : l.self.room ≡ l.fn.self.room + l.i;
}
