-- Every type with `Laws` owns exactly one machine value. Assumes `Logic`.
use Rattle.starlark_columns.proofs.LogicNames.{◌≡◌, subst, List, [], ◌∷◌, Ura, Val, Logic, RattleType, Is, layout, Laws}
use Rattle.core.proofs.cell.Inside.{one, Good}

pub lone_value : {M : Type 1} {𝓤 : Ura M} (𝓛 : Logic 𝓤) (R : RattleType) → Laws R → (x : R.Denot) (vs : List Val) → Is R x vs → (u : Val) × (vs ≡ u ∷ []) × Good (layout R) u
lone_value 𝓛 R L x vs is = one (layout R) vs (subst (λ τs. denote.Laws.Typed τs vs) L.one ((L.lawful 𝓛).typed x vs is))
