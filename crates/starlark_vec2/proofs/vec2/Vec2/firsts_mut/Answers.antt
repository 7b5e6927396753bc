use Rattle.starlark_hash.proofs.Common.{refl}
use Rattle.starlark_columns.proofs.ItemsAtFront.{written_cells}
use Rattle.starlark_vec2.proofs.TwoColumns.{relaid, firsts_written}
use Rattle.starlark_vec2.proofs.vec2.Vec2.firsts_mut.Goals as goal

pub invariant_of-self-lent : goal.invariant_of-self-lent
invariant_of-self-lent g c = λ ws. let k = c.self.invariant in relaid c.self.inside k _ _ (firsts_written _ _ _ k.0 ws) (written_cells _ _ k.0.firsts_front ws) refl
