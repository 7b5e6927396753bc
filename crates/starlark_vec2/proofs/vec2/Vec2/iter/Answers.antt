use Rattle.starlark_hash.proofs.Common.{zip, subst, ◌∙◌, deref_pair}
use Rattle.std.specs.Iterator.Runs.{ItemsMapTo, ItemsMapToReversed}
use Rattle.std_collections.proofs.IterRuns.{shows_in_order, shows_in_reverse}
use Rattle.starlark_vec2.proofs.Pairs.{zip-parts}
use Rattle.starlark_vec2.proofs.vec2.Vec2.iter.Goals as goal

pub returns-clause-rest : goal.returns-clause-rest
returns-clause-rest g c = c.new.ensures ∙ (λ j. zip (c.firsts.ensures j) (c.seconds.ensures j)) ∙ zip-parts c.args.self.now.pairs

pub returns-clause-runs : goal.returns-clause-runs
returns-clause-runs g c = λ p seen from. subst (ItemsMapTo p deref_pair) (from ∙ returns-clause-rest g c) (shows_in_order deref_pair p seen)

pub returns-clause-runs_back : goal.returns-clause-runs_back
returns-clause-runs_back g c = λ p seen from. subst (ItemsMapToReversed p deref_pair) (from ∙ returns-clause-rest g c) (shows_in_reverse deref_pair p seen)
