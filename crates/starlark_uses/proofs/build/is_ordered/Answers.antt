use Rattle.starlark_uses.proofs.Ordered.{ordered_walk}
use Rattle.starlark_uses.proofs.build.is_ordered.Goals as goal

pub returns : goal.returns
returns c = ordered_walk c.args.targets.now c.come_after_parts.result c.come_after_parts.ensures
