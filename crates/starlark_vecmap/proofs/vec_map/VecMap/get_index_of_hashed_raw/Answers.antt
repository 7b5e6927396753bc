use Rattle.starlark_vecmap.proofs.Views.{entries_in-columns}
use Rattle.starlark_vecmap.proofs.vec_map.VecMap.get_index_of_hashed_raw.Goals as goal

pub search_columns-requires-clause-callable : goal.search_columns-requires-clause-callable
search_columns-requires-clause-callable g c = rw (c.firsts.ensures, c.seconds.ensures, entries_in-columns c.self.inside.columns.pairs) (rw (← c.self.view_is) at c.requires)

pub returns : goal.returns
returns g c = rw (← c.self.view_is) (rw (c.firsts.ensures, c.seconds.ensures, entries_in-columns c.self.inside.columns.pairs) at c.search_columns.ensures)
