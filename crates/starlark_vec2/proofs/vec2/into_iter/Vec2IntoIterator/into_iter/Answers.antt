use Rattle.starlark_hash.proofs.Common.{ap, ◌∙◌}
use Rattle.starlark_columns.proofs.ItemsBetween.{between_front}
use Rattle.starlark_vec2.proofs.TwoColumns.{len_is}
use Rattle.std_collections.proofs.IterRuns.{gives_in_order, gives_in_reverse}
use Rattle.starlark_vec2.proofs.vec2.into_iter.Vec2IntoIterator.into_iter.Goals as goal

pub invariant_of-result : goal.invariant_of-result
invariant_of-result g c =
    let all = c.len-to.ensures.len ∙ len_is _ _ _ c.self.invariant.0 _ c.self.view_is in
    (rw all (between_front _ _ c.self.invariant.0.firsts_front), rw all (between_front _ _ c.self.invariant.0.seconds_front), c.self.invariant.1, c.self.invariant.2)

pub returns : goal.returns
returns g c = record { into_iter_gives = (ap (λ v. v.pairs) c.self.view_is, c.len-to.ensures.fits, gives_in_order, gives_in_reverse) }
