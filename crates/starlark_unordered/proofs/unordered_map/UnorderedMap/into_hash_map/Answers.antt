use Rattle.starlark_hash.proofs.Common.{append-nil}
use Rattle.starlark_unordered.proofs.Keys.{distinct_pairs}
use Rattle.starlark_unordered.proofs.unordered_map.UnorderedMap.into_hash_map.Goals as goal

pub move_pairs-requires : goal.move_pairs-requires
move_pairs-requires g c = rw (c.into_iter.ensures, c.in_ok-map.ensures.empty, append-nil) (distinct_pairs _ _ _ c.self.invariant)

pub returns : goal.returns
returns g c = rw (c.into_iter.ensures, c.in_ok-map.ensures.empty, append-nil, c.self.view_is) at c.in_ok-move_pairs.ensures
