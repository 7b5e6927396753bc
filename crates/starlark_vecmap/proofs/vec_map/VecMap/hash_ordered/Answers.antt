use Rattle.starlark_vecmap.proofs.Views.{entries_in-columns}
use Rattle.starlark_vecmap.proofs.vec_map.VecMap.hash_ordered.Goals as goal

pub returns : goal.returns
returns g c = rw (← c.self.view_is) (rw (c.firsts.ensures, c.seconds.ensures, entries_in-columns c.self.inside.columns.pairs) at c.hash_columns.ensures)
