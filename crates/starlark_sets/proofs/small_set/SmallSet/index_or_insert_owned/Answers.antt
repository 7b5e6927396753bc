use Rattle.starlark_sets.proofs.Put.{puts-at}
use Rattle.starlark_sets.proofs.small_set.SmallSet.index_or_insert_owned.Goals as goal

pub returns-clause-index : goal.returns-clause-index
returns-clause-index g c = (puts-at g.T.PartialEq.eq g.met.T.Eq.laws g.Q.Query.stands_for g.Q.Hash.hash_input c.args.query (g.met.Q.Query.respects_eq c.args.query) c.args.self.now c.index_or_push_for.new.self c.index_or_push_for.result c.index_or_push_for.ensures.set).index

pub returns-clause-equal : goal.returns-clause-equal
returns-clause-equal g c = (puts-at g.T.PartialEq.eq g.met.T.Eq.laws g.Q.Query.stands_for g.Q.Hash.hash_input c.args.query (g.met.Q.Query.respects_eq c.args.query) c.args.self.now c.index_or_push_for.new.self c.index_or_push_for.result c.index_or_push_for.ensures.set).equal

pub returns-clause-there : goal.returns-clause-there
returns-clause-there g c = (puts-at g.T.PartialEq.eq g.met.T.Eq.laws g.Q.Query.stands_for g.Q.Hash.hash_input c.args.query (g.met.Q.Query.respects_eq c.args.query) c.args.self.now c.index_or_push_for.new.self c.index_or_push_for.result c.index_or_push_for.ensures.set).there

pub returns-clause-last : goal.returns-clause-last
returns-clause-last g c = (puts-at g.T.PartialEq.eq g.met.T.Eq.laws g.Q.Query.stands_for g.Q.Hash.hash_input c.args.query (g.met.Q.Query.respects_eq c.args.query) c.args.self.now c.index_or_push_for.new.self c.index_or_push_for.result c.index_or_push_for.ensures.set).last

pub returns-clause-updates : goal.returns-clause-updates
returns-clause-updates g c = (puts-at g.T.PartialEq.eq g.met.T.Eq.laws g.Q.Query.stands_for g.Q.Hash.hash_input c.args.query (g.met.Q.Query.respects_eq c.args.query) c.args.self.now c.index_or_push_for.new.self c.index_or_push_for.result c.index_or_push_for.ensures.set).updates

pub returns-clause-count : goal.returns-clause-count
returns-clause-count g c = (puts-at g.T.PartialEq.eq g.met.T.Eq.laws g.Q.Query.stands_for g.Q.Hash.hash_input c.args.query (g.met.Q.Query.respects_eq c.args.query) c.args.self.now c.index_or_push_for.new.self c.index_or_push_for.result c.index_or_push_for.ensures.set).count

pub returns-clause-own : goal.returns-clause-own
returns-clause-own g c = (puts-at g.T.PartialEq.eq g.met.T.Eq.laws g.Q.Query.stands_for g.Q.Hash.hash_input c.args.query (g.met.Q.Query.respects_eq c.args.query) c.args.self.now c.index_or_push_for.new.self c.index_or_push_for.result c.index_or_push_for.ensures.set).own

pub returns-clause-lacking : goal.returns-clause-lacking
returns-clause-lacking g c = (puts-at g.T.PartialEq.eq g.met.T.Eq.laws g.Q.Query.stands_for g.Q.Hash.hash_input c.args.query (g.met.Q.Query.respects_eq c.args.query) c.args.self.now c.index_or_push_for.new.self c.index_or_push_for.result c.index_or_push_for.ensures.set).lacking

pub returns-clause-unchanged : goal.returns-clause-unchanged
returns-clause-unchanged g c = (puts-at g.T.PartialEq.eq g.met.T.Eq.laws g.Q.Query.stands_for g.Q.Hash.hash_input c.args.query (g.met.Q.Query.respects_eq c.args.query) c.args.self.now c.index_or_push_for.new.self c.index_or_push_for.result c.index_or_push_for.ensures.set).unchanged
