use Rattle.starlark_vecmap.proofs.ColumnComparison.{ascends-columns}
use Rattle.starlark_vecmap.proofs.vec_map.VecMap.is_sorted_by_key.Goals as goal

pub returns : goal.returns
returns g c =
    rw (← c.self.view_is) (ascends-columns g.K.Ord.cmp c.self.inside.columns.pairs c.keys_ascend.result (rw c.firsts.ensures at c.keys_ascend.ensures))
