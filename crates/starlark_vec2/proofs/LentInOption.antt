-- The two cases of an `Option` that a call returned, and the type of a pair of `&mut`s. Assumes `Logic`.
use Rattle.starlark_columns.proofs.LogicNames.{◌≡◌, refl, ap, ◌∙◌, ◌⊎◌, inl, inr, [], ◌∷◌, Ura, named, Val, of_list, vptr, vstruct, vcons, vnil, ent, Lft, Logic, sem, ‵, ◌$◌, ◌∵◌, !, qed, by, keep, fsplit, fpick, feq_l, live, fact, fact_i, RattleType, MutBor, MutRef, only, Tuple}
use Rattle.core.specs.declared.option.Option.{Option}
use Rattle.core.specs.declared.option.Option.TheVariants.{None, Some}
use Rattle.core.specs.contracts.option.Option as OP
pub use Rattle.starlark_columns.proofs.LentParts.{given_up, as_tuple}

-- an `Option` is `Some` of an item or `None`
pub either : {A : Type 0} (o : Option A) → ((x : A) × (o ≡ Some x)) ⊎ (o ≡ None)
either (Some x) = inl (x, refl)
either None = inr refl

pub in_none : {M : Type 1} {𝓤 : Ura M} (𝓛 : Logic 𝓤) (R : RattleType) (v : Val) → ent 𝓤 (sem 𝓛 ((OP.the_row R).own_val None (v ∷ []))) (fact 𝓤 (v ≡ live 0 vnil))
in_none {𝓤 = 𝓤} 𝓛 R v =
    qed 𝓛 (‵ ((OP.the_row R).own_val None (v ∷ [])) ∷ []) ∵ fpick ! (λ us. fsplit ! $ feq_l ! (λ e. fpick ! (λ vss. fsplit ! $ feq_l ! (λ f.
    keep ! [] $ by ! (fact_i 𝓤 _ _ (ap only e ∙ ap (λ ws. live 0 (of_list ws)) f))))))

-- `(&mut A, &mut B)`
abbrev pub PairOf : RattleType → RattleType → Lft → RattleType
PairOf A B κ = Tuple (MutRef (named 0) κ A ∷ MutRef (named 0) κ B ∷ [])

abbrev pub pair_val : {A B : Type 0} → MutBor A × MutBor B → Val
pair_val x = vstruct (vcons (vptr x.0.ref_ptr.0 x.0.ref_ptr.1) (vcons (vptr x.1.ref_ptr.0 x.1.ref_ptr.1) vnil))
