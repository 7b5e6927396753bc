use Rattle.starlark_hash.proofs.Common.{◌≤◌, length, refl, sym, subst, ◌∙◌, IfOk-weaker}
use Rattle.starlark_small.proofs.Growing.{stepped_from}
use Rattle.starlark_runs.proofs.NewMapMemory.{emptied, capacity_anew, indexed_anew}
use Rattle.starlark_runs.proofs.EntryCollection.{walked-single}
use Rattle.starlark_runs.proofs.collection.collected_anew.Goals as goal

pub returns-clause-entries : goal.returns-clause-entries
returns-clause-entries g c =
    let walk = c.into_iter_hashed.ensures in
    IfOk-weaker c.from_iter_hashed.result _ _
    (λ m p. walked-single g.K.PartialEq.eq g.met.K.Eq.laws _ c.args.map.entries m.entries p.items p.drained (p.made ∙ walk.entries) p.entries walk.single)
    c.from_iter_hashed.ensures.map

pub returns-clause-capacity : goal.returns-clause-capacity
returns-clause-capacity g c =
    let es = c.args.map.entries in let walk = c.into_iter_hashed.ensures in
    IfOk-weaker c.from_iter_hashed.result _ _
    (λ m p.
    let same = walked-single g.K.PartialEq.eq g.met.K.Eq.laws _ es m.entries p.items p.drained (p.made ∙ walk.entries) p.entries walk.single in
    capacity_anew m es p.first same (subst (λ l. p.first ≤ length l) (p.made ∙ walk.entries) (p.bounded tt)) (p.capacity ∙ sym (stepped_from (emptied m p.first) m p.first refl refl)))
    c.from_iter_hashed.ensures.map

pub returns-clause-indexed : goal.returns-clause-indexed
returns-clause-indexed g c =
    let es = c.args.map.entries in let walk = c.into_iter_hashed.ensures in
    IfOk-weaker c.from_iter_hashed.result _ _
    (λ m p.
    let same = walked-single g.K.PartialEq.eq g.met.K.Eq.laws _ es m.entries p.items p.drained (p.made ∙ walk.entries) p.entries walk.single in
    indexed_anew m es p.first same (subst (λ l. p.first ≤ length l) (p.made ∙ walk.entries) (p.bounded tt)) p.indexed)
    c.from_iter_hashed.ensures.map
