use Rattle.starlark_vecmap.proofs.Views.{entries_in-columns}
use Rattle.starlark_vecmap.proofs.vec_map.VecMap.search_few.Goals as goal

pub search_few-requires-clause-callable : goal.search_few-requires-clause-callable
search_few-requires-clause-callable g c = rw (c.firsts.ensures, c.seconds.ensures, entries_in-columns c.self.inside.columns.pairs) (rw (← c.self.view_is) at c.requires.callable)

pub returns : goal.returns
returns g c = rw (← c.self.view_is) (rw (c.firsts.ensures, c.seconds.ensures, entries_in-columns c.self.inside.columns.pairs) at c.search_few.ensures)
