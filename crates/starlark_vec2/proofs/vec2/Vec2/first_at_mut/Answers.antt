use Rattle.starlark_hash.proofs.Common.{Some, refl}
use lib.ListN.{length-set}
use Rattle.starlark_vec2.proofs.TwoColumns.{relaid, first_set}
use Rattle.starlark_vec2.proofs.vec2.Vec2.first_at_mut.Goals as goal

pub invariant_of-self-lent : goal.invariant_of-self-lent
invariant_of-self-lent g c = λ w. let k = c.self.invariant in relaid c.self.inside k _ _ (first_set _ _ _ k.0 _ c.self.view_is c.args.index c.requires w) (length-set _ c.args.index (Some w)) refl
