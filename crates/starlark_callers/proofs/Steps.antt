-- The steps that the proofs by hand share. Assumes `Logic`.
use Rattle.core.specs.contracts.option.Option as OP
use Rattle.core.specs.contracts.result.Result as RS
use Rattle.starlark_callers.proofs.Walks.{◌≡◌, refl, ap, ◌∙◌, Bool, true, false, ◌&&◌, List, [], ◌∷◌, ◌++◌, nameless, called, T, Ura, named, Val, vstruct, vcons, vnil, of_list, SProp, ent, sep, ex, guard, Lft, GName, fres, Logic, sem, live, followed₂, ‵, ◌$◌, ◌∵◌, !, qed, move, keep, drop, use2, join, fsplit, fsplit3, fpick, feq_l, show, check, rewrite, done, RattleType, Is, shows, follows_both, follows_both_if, mem, layout, Laws, Bor, MutBor, MutRef, ShrRef, mut_vals, mut_Tells, shr_Tells, peeks, only, tuple_laws, Good, Some, Ok, lone_value, Entry, entry_val}
pub use Rattle.starlark_columns.proofs.ProofSteps.{mut_laws, good_value, within, Kept, Lent, lent_within, back_again}
use denote.Follow.{both_by, both_if_by}
use Rattle.starlark_vec2.proofs.LentInOption.{PairOf}

-- two truths, as a tuple of two types asks for them
pub both : (a b : Bool) → T a → T b → T (a && (b && true))
both true true p q = tt
both true false p q = absurd q
both false b p q = absurd p

pub pair_laws : (κ : Lft) (A B : RattleType) → Laws A → Laws B → Laws (PairOf A B κ)
pair_laws κ A B LA LB = tuple_laws (MutRef (named 0) κ A ∷ MutRef (named 0) κ B ∷ []) (mut_laws κ A LA, (mut_laws κ B LB, tt))

module _ {M : Type 1} {𝓤 : Ura M} (𝓛 : Logic 𝓤) where
  module _ (R S T : RattleType) (γ : GName) (F : S.Denot → T.Denot → R.Denot) where
    -- what is lent in two parts ends as these leave it
    pub both_followed : (γ₁ γ₂ : GName) (x : S.Denot) (y : T.Denot)
        → ent 𝓤 (sep 𝓤 (sem 𝓛 (fres γ₁ (S.coded.code x))) (sep 𝓤 (sem 𝓛 (fres γ₂ (T.coded.code y))) (sem 𝓛 (follows_both R S T γ γ₁ γ₂ F)))) (sem 𝓛 (fres γ (R.coded.code (F x y))))
    unfolding both_by
    both_followed γ₁ γ₂ x y =
        qed 𝓛 (‵ (fres γ₁ (S.coded.code x)) ∷ ‵ (fres γ₂ (T.coded.code y)) ∷ ‵ (follows_both R S T γ γ₁ γ₂ F) ∷ []) ∵ join ! $
        use2 𝓛 (‵ (fres γ (R.coded.code (F x y)))) (followed₂ 𝓛 (mem R) (mem S) (mem T) F γ γ₁ γ₂ x y) $ done !

    -- a clause of two names, where both have left and where none has
    pub left_two : (γ₁ γ₂ : GName) (v : R.Denot) → ent 𝓤 (sem 𝓛 (follows_both_if R S T γ (called (γ₁, γ₂)) F v)) (sem 𝓛 (follows_both R S T γ γ₁ γ₂ F))
    unfolding both_if_by
    left_two γ₁ γ₂ v = qed 𝓛 (‵ (follows_both R S T γ γ₁ γ₂ F) ∷ []) ∵ done !

    pub left_neither : (v : R.Denot) → ent 𝓤 (sem 𝓛 (follows_both_if R S T γ nameless F v)) (sem 𝓛 (fres γ (R.coded.code v)))
    unfolding both_if_by
    left_neither v = qed 𝓛 (‵ (fres γ (R.coded.code v)) ∷ []) ∵ done !

  -- what an `Option` has
  module _ (R : RattleType) (L : Laws R) (x : R.Denot) (v : Val) where
    abbrev Held : Val → SProp 𝓤
    Held u = guard 𝓤 ((v ≡ live 1 (vcons u vnil)) × Good (layout R) u) (sem 𝓛 (R.own_val x (u ∷ [])))

    pub in_some : ent 𝓤 (sem 𝓛 ((OP.the_row R).own_val (Some x) (v ∷ []))) (ex 𝓤 Held)
    in_some =
        qed 𝓛 (‵ ((OP.the_row R).own_val (Some x) (v ∷ [])) ∷ []) ∵ fpick ! (λ us. fsplit ! $ feq_l ! (λ e. fpick ! (λ vss. fsplit ! $ feq_l ! (λ f. fsplit ! $
        peeks ! R (Is R) (shows 𝓛 R) x vss.0 (λ is. let got = lone_value 𝓛 R L x vss.0 is in
        rewrite ! 0 (λ (ws : List Val). ‵ (R.own_val x ws)) got.1 refl $ show ! Held got.0 $
        check ! (ap only e ∙ ap (λ ws. live 1 (of_list ws)) (f ∙ ap (λ ws. ws ++ []) got.1), got.2) $ keep ! (0 ∷ []) $ done !)))))

  -- the value's reference of a `(&K, &mut V)`
  module _ (K V : RattleType) (κ : Lft) (x : Bor K.Denot × MutBor V.Denot) (v : Val) where
    pub in_ok_entry : (E : RattleType) → ent 𝓤 (sem 𝓛 ((RS.the_row (Entry 𝓛 K V κ x v) E).own_val (Ok x) (v ∷ [])))
        (guard 𝓤 (v ≡ live 0 (vcons (entry_val 𝓛 K V κ x v) vnil)) (sem 𝓛 ((MutRef (named 0) κ V).own_val x.1 (mut_vals x.1))))
    in_ok_entry E =
        qed 𝓛 (‵ ((RS.the_row (Entry 𝓛 K V κ x v) E).own_val (Ok x) (v ∷ [])) ∷ []) ∵ fpick ! (λ us. fsplit ! $ feq_l ! (λ e. fpick ! (λ ws. fsplit ! $ feq_l ! (λ h. fsplit ! $
        fpick ! (λ vss. fsplit ! $ feq_l ! (λ d. fsplit3 ! $ move ! (2 ∷ []) $ drop ! $
        peeks ! (ShrRef (named 0) κ K) (Is (ShrRef (named 0) κ K)) (shows 𝓛 (ShrRef (named 0) κ K)) x.0 vss.0 (λ i. drop ! $
        peeks ! (MutRef (named 0) κ V) (Is (MutRef (named 0) κ V)) (shows 𝓛 (MutRef (named 0) κ V)) x.1 vss.1.0 (λ j.
        let f = shr_Tells (named 0) κ K x.0 vss.0 i in let g = mut_Tells (named 0) κ V x.1 vss.1.0 j in
        rewrite ! 0 (λ (vs : List Val). ‵ ((MutRef (named 0) κ V).own_val x.1 vs)) g refl $
        check ! (ap only e ∙ ap (λ vs. live 0 (of_list vs)) (h ∙ ap (λ vs. vs ++ []) (d ∙ (λ k. vstruct (of_list (f k ++ (g k ++ []))) ∷ [])))) $ keep ! (0 ∷ []) $ done !))))))))
