use Rattle.starlark_runs.proofs.OneListLemmas.{AgreeWhere-none_refused, AgreeWhere-same_refused, HaveSameRuns-of_one}
use Rattle.starlark_runs.specs.Run.{Shows}
use Rattle.starlark_runs.proofs.one_list.index_never_shows.Goals as goal

pub returns-clause-runs : goal.returns-clause-runs
returns-clause-runs g c = HaveSameRuns-of_one g.K.PartialEq.eq g.K.Ord.cmp (Shows g.F.Fn c.args.look.now) c.args.first.now.entries c.args.second.now.entries

pub returns-clause-same_refused : goal.returns-clause-same_refused
returns-clause-same_refused g c = AgreeWhere-same_refused g.K.PartialEq.eq g.K.Ord.cmp (Shows g.F.Fn c.args.look.now) c.args.first.now.entries c.args.second.now.entries

pub returns-clause-none_refused : goal.returns-clause-none_refused
returns-clause-none_refused g c = AgreeWhere-none_refused g.K.PartialEq.eq g.K.Ord.cmp (Shows g.F.Fn c.args.look.now) c.args.first.now.entries c.args.second.now.entries
