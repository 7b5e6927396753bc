use Rattle.starlark_hash.proofs.Common.{◌≡◌, sym, ap, subst, ◌∙◌, refl, rules, of_calls, range_with_len, IsStableBy}
use denote.Param.Always.{mut_by}
use Rattle.starlark_vec2.specs.Sort.{lt_at, ComparesAt, CanCompare}
use Rattle.starlark_vec2.proofs.Positions.{CanCompare-next, compares_positions, lt_at-weak}
use Rattle.starlark_vec2.proofs.vec2.Vec2.sorted_positions.Goals as goal

pub sort_by-requires : goal.sort_by-requires
sort_by-requires g c =
    mut_by _ (λ s. CanCompare g.F.FnMut s.0.now.pairs s.1.now) (λ s a i. i)
    (λ s a r t i e.
    let same : t.0.now ≡ s.0.now = search (rules, of_calls, e) in
    let told : ComparesAt g.F.FnMut s.0.now.pairs s.1.now a.0.now a.1.0.now r t.1.now = search (rules, of_calls, e) in
    subst (λ v. CanCompare g.F.FnMut v.pairs t.1.now) (sym same) (CanCompare-next g.F.FnMut s.0.now.pairs s.1.now a.0.now a.1.0.now r t.1.now told i))
    _ c.requires

pub returns-clause-sorted : goal.returns-clause-sorted
returns-clause-sorted g c = λ lt weak h.
    let ps = c.args.self.now.pairs in
    let ordered = compares_positions g.F.FnMut _ (λ s. s.1.now) (λ s. s.0.now.pairs) (λ s i j r t e. (search (rules, of_calls, e), search (rules, of_calls, e))) lt ps _ refl h in (
      c.in_ok-sort_by.ensures.sorted (lt_at lt ps) (lt_at-weak lt weak ps) ordered,
      subst (λ l. IsStableBy (lt_at lt ps) l c.sort_by.new.self.items) (c.in_ok-order.ensures ∙ ap (range_with_len 0) c.len.ensures.len) (c.sort_by.ensures.stable (lt_at lt ps) (lt_at-weak lt weak ps) ordered),
    )
