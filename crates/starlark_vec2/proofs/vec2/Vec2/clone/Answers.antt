use Rattle.starlark_hash.proofs.Common.{length, zip, ap, sym, subst, ◌∙◌, AllZip}
use Rattle.std.proofs.lemmas.List.Elements.{same_from_all_zip}
use Rattle.starlark_columns.specs.Cells.{items_of}
use Rattle.starlark_hash.specs.Clone.{IsPairClone}
use Rattle.starlark_vec2.specs.PairList.{pair_list}
use Rattle.starlark_vec2.proofs.Pairs.{AllZip-zip}
use Rattle.starlark_vec2.proofs.TwoColumns.{len_is}
use Rattle.starlark_vec2.proofs.vec2.Vec2.clone.Goals as goal

pub returns-in-Ok-clone_items-clause-pairs : goal.returns-in-Ok-clone_items-clause-pairs
returns-in-Ok-clone_items-clause-pairs g c =
    let us = items_of c.clone_items.new.to.cells in
    let vs = items_of c.clone_items-in-Ok.new.to.cells in
    subst (λ v. AllZip (IsPairClone g.A.Clone.is_clone g.B.Clone.is_clone) v.pairs (zip us vs)) c.self.view_is
    (AllZip-zip _ _ (items_of c.self.inside.firsts.cells) us (items_of c.self.inside.seconds.cells) vs c.in-Ok.ensures.items c.in-Ok-clone_items.ensures.items)

pub returns-in-Ok-clone_items-clause-same : goal.returns-in-Ok-clone_items-clause-same
returns-in-Ok-clone_items-clause-same g c = λ firsts_same seconds_same.
    let us = same_from_all_zip _ _ _ c.in-Ok.ensures.items firsts_same in
    let vs = same_from_all_zip _ _ _ c.in-Ok-clone_items.ensures.items seconds_same in
    let len = sym (len_is _ _ _ c.self.invariant.0 _ c.self.view_is) in
    (λ j. pair_list (zip (us j) (vs j)) ((c.clone_items.ensures.cells ∙ c.in_ok-spot.ensures.cells.1 ∙ len) j)) ∙ ap (λ v. pair_list v.pairs (length c.args.self.now.pairs)) c.self.view_is
