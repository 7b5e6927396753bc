use Rattle.starlark_hash.proofs.Common.{subst, sym}
use Rattle.starlark_runs.specs.Run.{Run, Shows}
use Rattle.starlark_runs.proofs.one_list.replies_agree.Goals as goal

pub returns-clause-agree : goal.returns-clause-agree
returns-clause-agree g c = λ same commands looks once refused.
    let eq = g.K.PartialEq.eq in
    let cmp = g.K.Ord.cmp in
    let start = c.args.second.now.entries in
    let others = c.in_ok-others.others.items in
    let end = c.run-2.new.map.entries in
    c.index_never_shows.ensures.same_refused same once c.args.commands.items c.in_ok-replies.replies.items others c.run.new.map.entries end c.in_ok-replies.ensures.run
    (subst (λ xs. Run eq cmp (Shows g.F.Fn c.args.look) start xs others end) (sym commands)
    (subst (λ look. Run eq cmp (Shows g.F.Fn look) start c.args.same_commands.items others end) (sym looks) c.in_ok-others.ensures.run)) refused
