use Rattle.starlark_hash.proofs.Common.{◌≡◌, drop, fold}
use Rattle.starlark_vecmap.specs.EntryList.{entries_in}
use Rattle.starlark_hash.specs.Compare.{ordered_feed}
use Rattle.starlark_vecmap.proofs.columns.hash_columns.Given as goal

abbrev pub invariant-loop-i : goal.invariant-loop-i
invariant-loop-i g l =
    fold g.H.Hasher.write l.state (ordered_feed g.V.Hash.hash_input (entries_in (drop l.i l.pairs) (drop l.i l.hashes)))
    ≡ fold g.H.Hasher.write l.initial.state (ordered_feed g.V.Hash.hash_input (entries_in l.pairs l.hashes))
