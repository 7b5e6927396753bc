use mathlib.Core.Path.{subst⁻¹}
use Rattle.starlark_hash.proofs.Common.{rules, ◌≡◌, None, subst, sym, ap, ◌∙◌, ◌∷◌, [], ◌++◌}
use Rattle.starlark_hash.specs.Entries.{match_of}
use Rattle.starlark_hash.proofs.EntryLemmas.{IsSingle-push}
use Rattle.starlark_vecmap.specs.EntryList.{with_entries}
use Rattle.starlark_small.specs.Index.{IsIndexed, IsSound, map_of}
use Rattle.starlark_small.proofs.Indexed.{IsIndexed-noted}
use Rattle.starlark_small.proofs.CallerInsert.{IsDone, is-appended}
use Rattle.starlark_hash.specs.HashValue.{hash_of, key_of}
use Rattle.starlark_small.proofs.CallerLookup.{position_of-found}
use Rattle.starlark_small.proofs.small_map.SmallMap.push.Given.{Over}
use Rattle.starlark_small.proofs.small_map.SmallMap.push.Goals.{After-push_reserved}
use Rattle.starlark_small.proofs.small_map.SmallMap.push.Goals as goal

pub invariant_of-self : goal.invariant_of-self
invariant_of-self g c =
    let eq = g.K.PartialEq.eq in
    let list = c.self.inside.entries in
    let es = list.entries in
    subst⁻¹ (λ l. IsSound eq l.entries c.note.new.self) {x = c.push_reserved.new.self} {y = with_entries list (es ++ (c.args.key, c.args.value) ∷ [])} c.push_reserved.ensures (record {
      single = IsSingle-push eq g.met.K.Eq.laws es c.args.key c.args.value c.self.invariant.single (subst (λ l. match_of eq l c.args.key ≡ None) (sym (ap (λ m. m.entries) c.self.view_is ∙ c.in_default.ensures.reserves.reserved.entries)) (position_of-found (eq (key_of c.args.key)) (hash_of c.args.key) c.args.self.now.entries c.requires));
      indexed = subst (IsIndexed (es ++ (c.args.key, c.args.value) ∷ [])) (sym c.note.ensures.noted) (IsIndexed-noted es (c.args.key, c.args.value) c.hash.result c.self.inside.index (sym c.hash.ensures) (search rules) c.note.ensures.fits c.self.invariant.indexed);
    })

done : (g : Over) (c : After-push_reserved g) → IsDone g.K.PartialEq.eq c.args.self.now (map_of c.push_reserved.new.self c.note.new.self) c.args.key c.args.value
done g c =
    is-appended g.K.PartialEq.eq g.met.K.Eq.laws c.args.self.now (map_of c.push_reserved.new.self c.note.new.self) c.args.key c.args.value c.requires (search rules)

pub returns-clause-updates : goal.returns-clause-updates
returns-clause-updates g c = (done g c).updates

pub returns-clause-own : goal.returns-clause-own
returns-clause-own g c = (done g c).own
