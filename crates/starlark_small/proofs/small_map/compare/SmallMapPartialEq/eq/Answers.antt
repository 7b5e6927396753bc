use Rattle.starlark_hash.proofs.Common.{◌≡◌, true, false, length, get_or, slice_get, None, Some, refl, sym, ap, subst, arith, rules}
use Rattle.std_collections.specs.Map.{keys_of}
use borrow.Author.Count.{below_more}
use Rattle.starlark_hash.specs.declared.hashed.Hashed.{Hashed}
use Rattle.starlark_vecmap.specs.EntryList.{deref_entry}
use Rattle.starlark_small.specs.Compare.{agree_at}
use Rattle.starlark_small.proofs.SameEntries.{agree-found, own_key, unequal_at, equal_by_keys_of}
use Rattle.starlark_small.proofs.small_map.compare.SmallMapPartialEq.eq.Goals as goal

pub returns-then-not-eq : goal.returns-then-not-eq
returns-then-not-eq g c =
    let ds = c.args.self.now.entries in
    unequal_at g.K.PartialEq.eq g.V.PartialEq.eq g.met.K.Eq.laws ds c.args.other.now.entries _
    (agree-found g.K.PartialEq.eq g.V.PartialEq.eq g.met.K.Eq.laws ds c.args.other.now.entries c.loop-i.i (deref_entry c.get_unchecked.result) (search rules) (search rules)
    (Some c.in-Some.found.now) c.eq.result false c.in-Some.ensures.value c.eq.ensures c.if-not-eq.true)

pub returns-in-None : goal.returns-in-None
returns-in-None g c =
    let ds = c.args.self.now.entries in
    unequal_at g.K.PartialEq.eq g.V.PartialEq.eq g.met.K.Eq.laws ds c.args.other.now.entries _
    (agree-found g.K.PartialEq.eq g.V.PartialEq.eq g.met.K.Eq.laws ds c.args.other.now.entries c.loop-i.i (deref_entry c.get_unchecked.result) (search rules) (search rules)
    None false false c.in-None.ensures.value (refl {a = false}) (refl {a = false}))

pub loop-i-preserved : goal.loop-i-preserved
loop-i-preserved g c =
    let ds = c.args.self.now.entries in
    let es = c.args.other.now.entries in
    let e = deref_entry c.get_unchecked.result in
    let at : slice_get ds c.loop-i.i ≡ Some e = search rules in
    let agree = λ (q : Hashed g.row.K.Denot). agree_at g.K.PartialEq.eq g.V.PartialEq.eq ds es q ≡ true in
    let here : agree e.0 = agree-found g.K.PartialEq.eq g.V.PartialEq.eq g.met.K.Eq.laws ds es c.loop-i.i e at (search rules)
    (Some c.in-Some.found.now) c.eq.result true c.in-Some.ensures.value c.eq.ensures c.if-not-eq.false in
    below_more (λ n. (d : Hashed g.row.K.Denot) → agree (get_or (keys_of ds) n d)) c.loop-i.i c.loop-i.invariant
    (λ d. subst agree (sym (own_key g.K.PartialEq.eq g.met.K.Eq.laws ds c.loop-i.i e at d)) here)

pub returns : goal.returns
returns g c =
    let ds = c.args.self.now.entries in
    let es = c.args.other.now.entries in
    let size : length ds ≡ length es = omega (arith, ap (λ m. length m.entries) c.self.view_is, ap (λ m. length m.entries) c.other.view_is) in
    equal_by_keys_of g.K.PartialEq.eq g.V.PartialEq.eq g.met.K.Eq.laws ds es (search rules) (search rules) size
    (λ k below. c.loop-i.invariant k (omega (arith, below, ap (λ m. length m.entries) c.self.view_is)))
