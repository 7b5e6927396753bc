use Rattle.starlark_hash.proofs.Common.{◌≡◌, ◌+◌, ◌<◌, ◌≤◌, ◌^◌, length, take, All}
use Rattle.starlark_small.specs.Index.{hashes_of}
use Rattle.starlark_small.proofs.index.Index.note_all.Given as goal

abbrev pub invariant-loop-i : goal.invariant-loop-i
invariant-loop-i g l = record {
  list : l.table.list ≡ hashes_of (take l.i l.entries.entries);
  room : l.table.room + l.i ≡ l.initial.table.room;
  enough : length l.entries.entries ≤ l.initial.table.room;
  fits : All (λ e. e.0.hash.0 < 2 ^ 32) (take l.i l.entries.entries);
}
