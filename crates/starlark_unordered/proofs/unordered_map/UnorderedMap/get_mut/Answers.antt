use Rattle.starlark_hash.proofs.Common.{false≢true, refl, sym, ap, ◌∙◌, option_map}
use Rattle.starlark_unordered.proofs.Callers.{among_found, writes-slot, trades-slot}
use Rattle.starlark_unordered.specs.Lookup.{found}
use Rattle.starlark_unordered.proofs.unordered_map.UnorderedMap.get_mut.Goals as goal

pub returns-in-Some : goal.returns-in-Some
unfolding found
returns-in-Some g c =
    let at = c.in-Some.ensures in
    let value = sym c.value_at_mut.ensures.value ∙ ap (option_map (λ p. p.1)) at.at ∙ sym at.found in
    let writes = writes-slot _ g.met.K.Eq.laws _ (g.met.Q.Query.respects_eq c.args.query) _ _ at in (
      (refl, λ w. (record { pairs = at.writes w; room = refl }, λ there. writes w, λ there. trades-slot _ _ _ at w), tt),
      record { writes_back = tt; value = value; member = among_found _ _ _ (sym value) },
    )

pub returns-in-None : goal.returns-in-None
unfolding found
returns-in-None g c =
    let lacks = c.in-None.ensures in (
      (refl, λ w. (tt, λ there. absurd (false≢true (rw lacks at there)), λ there. absurd (false≢true (rw lacks at there))), refl),
      record { writes_back = tt; value = sym lacks; member = tt },
    )
