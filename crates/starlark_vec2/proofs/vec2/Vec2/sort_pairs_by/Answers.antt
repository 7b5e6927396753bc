use Rattle.starlark_hash.proofs.Common.{ap, ◌∙◌, on_ok_weaker}
use Rattle.starlark_hash.specs.Sort.{sorted_by}
use Rattle.starlark_hash.proofs.SortingLemmas.{sorted_by-unique}
use Rattle.starlark_vec2.proofs.vec2.Vec2.sort_pairs_by.Goals as goal

pub returns-clause-sorted : goal.returns-clause-sorted
returns-clause-sorted g c =
    on_ok_weaker c.sort_by-sorted.result
    (λ up lt weak told.
    ap (λ v. v.pairs) c.put_pairs.ensures
    ∙ sorted_by-unique lt weak c.in_ok-pairs.pairs.items c.sort_by-sorted.new.self.items (up lt weak told) (c.sort_by-sorted.ensures.stable lt weak told)
    ∙ ap (sorted_by lt) c.in_ok-pairs.ensures.pairs)
    c.sort_by-sorted.ensures.sorted
