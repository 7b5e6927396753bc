use Rattle.starlark_hash.proofs.Common.{refl}
use Rattle.starlark_hash.specs.Sort.{key_lt}
use Rattle.starlark_hash.proofs.SortingLemmas.{sorted_by-fixed, key_lt-order}
use Rattle.starlark_vecmap.proofs.vec_map.VecMap.sort_keys.Goals as goal

pub returns-then-is_sorted_by_key-clause-sorted : goal.returns-then-is_sorted_by_key-clause-sorted
returns-then-is_sorted_by_key-clause-sorted g c =
    rw (sorted_by-fixed (key_lt g.K.Ord.cmp) (key_lt-order g.met.K.Ord.total) c.args.self.now.entries (rw c.if-is_sorted_by_key.true at c.is_sorted_by_key.ensures)) refl
