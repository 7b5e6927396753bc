use Rattle.starlark_vec2.proofs.TwoColumns.{pair_is}
use Rattle.starlark_vec2.proofs.vec2.Vec2.remove.Goals as goal

pub returns-clause-taken : goal.returns-clause-taken
returns-clause-taken g c = pair_is _ _ _ c.self.invariant.0 _ c.self.view_is c.args.index _ _ c.remove_at.ensures.taken c.remove_at-2.ensures.taken
