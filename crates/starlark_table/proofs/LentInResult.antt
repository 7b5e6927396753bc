-- A `Result` of a lent key and value: proofs make one clause for both `Ok` and `Err`, and open a `Result` that a call
-- returned. Assumes `Logic`.
use Rattle.starlark_columns.proofs.LogicNames.{◌≡◌, refl, ap, ◌∙◌, ℕ, ◌⊎◌, inl, inr, List, [], ◌∷◌, ◌++◌, none, Ura, named, Val, of_list, vptr, vstruct, vcons, vnil, SProp, ent, ex, guard, Lft, GName, fres, Logic, sem, ‵, ◌$◌, ◌∵◌, !, qed, keep, fsplit, fpick, fpack, feq_l, rewrite, show, check, done, live, RattleType, follows, follows_so, such_by, follows_by, Is, shows, Bor, MutBor, MutRef, ShrRef, mut_Tells, shr_Tells, layout, peeks, only, Good, Tuple}
use mathlib.Core.Option.{some}
use Rattle.core.specs.declared.result.Result.{Result}
use Rattle.core.specs.declared.result.Result.TheVariants.{Ok, Err}
use Rattle.core.specs.contracts.result.Result as RS
pub use Rattle.starlark_columns.proofs.LentParts.{given_up, as_tuple}

module _ {M : Type 1} {𝓤 : Ura M} (𝓛 : Logic 𝓤) where
  open 𝓛 use {H}

  module _ (R T : RattleType) (γ : GName) (P : T.Denot → R.Denot → Type 0) (P₀ : R.Denot → Type 0) (v : R.Denot) (ends : P₀ v) where
    -- no part is lent: the whole is as the value says
    pub so_rests : ((w : T.Denot) → P w v) → ent 𝓤 (sem 𝓛 (fres γ (R.coded.code v))) (sem 𝓛 (follows_so R T γ none P P₀))
    unfolding such_by follows_by
    so_rests p = qed 𝓛 (‵ (fres γ (R.coded.code v)) ∷ []) ∵ fpack ! ((s : (T.Denot → R.Denot) × R.Denot) × ((w : T.Denot) → P w (s.0 w)) × P₀ s.1) (λ s. follows_by R.Denot T.Denot R.coded.code T.coded.code γ none s.0.0 s.0.1) (((λ w. v), v), p, ends) $ done !

    -- a part is lent, and the whole follows it
    pub so_follows : (γ' : GName) (F : T.Denot → R.Denot) → ((w : T.Denot) → P w (F w)) → ent 𝓤 (sem 𝓛 (follows R T γ γ' F)) (sem 𝓛 (follows_so R T γ (some γ') P P₀))
    unfolding such_by follows_by
    so_follows γ' F p = qed 𝓛 (‵ (follows R T γ γ' F) ∷ []) ∵ fpack ! ((s : (T.Denot → R.Denot) × R.Denot) × ((w : T.Denot) → P w (s.0 w)) × P₀ s.1) (λ s. follows_by R.Denot T.Denot R.coded.code T.coded.code γ (some γ') s.0.0 s.0.1) ((F, v), p, ends) $ done !

  module _ (R E : RattleType) (v : Val) where
    -- `Ok` of a value whose type determines its machine value
    pub in_ok_told : (x : R.Denot) (u : Val) → ((vs : List Val) → Is R x vs → (vs ≡ u ∷ []) × Good (layout R) u)
        → ent 𝓤 (sem 𝓛 ((RS.the_row R E).own_val (Ok x) (v ∷ []))) (guard 𝓤 ((v ≡ live 0 (vcons u vnil)) × Good (layout R) u) (sem 𝓛 (R.own_val x (u ∷ []))))
    in_ok_told x u told =
        qed 𝓛 (‵ ((RS.the_row R E).own_val (Ok x) (v ∷ [])) ∷ []) ∵ fpick ! (λ us. fsplit ! $ feq_l ! (λ e. fpick ! (λ vss. fsplit ! $ feq_l ! (λ f. fsplit ! $
        peeks ! R (Is R) (shows 𝓛 R) x vss.0 (λ is. let got = told vss.0 is in
        rewrite ! 0 (λ (ws : List Val). ‵ (R.own_val x ws)) got.0 refl $
        check ! (ap only e ∙ ap (λ ws. live 0 (of_list ws)) (f ∙ ap (λ ws. ws ++ []) got.0), got.1) $ keep ! (0 ∷ []) $ done !)))))

    abbrev pub Held : ℕ → (T : RattleType) → T.Denot → Val → SProp 𝓤
    Held k T x u = guard 𝓤 ((v ≡ live k (vcons u vnil)) × Good (layout T) u) (sem 𝓛 (T.own_val x (u ∷ [])))

    pub in_err : (x : E.Denot) → ((vs : List Val) → Is E x vs → (u : Val) × (vs ≡ u ∷ []) × Good (layout E) u) → ent 𝓤 (sem 𝓛 ((RS.the_row R E).own_val (Err x) (v ∷ []))) (ex 𝓤 (Held 1 E x))
    in_err x lone =
        qed 𝓛 (‵ ((RS.the_row R E).own_val (Err x) (v ∷ [])) ∷ []) ∵ fpick ! (λ us. fsplit ! $ feq_l ! (λ e. fpick ! (λ vss. fsplit ! $ feq_l ! (λ f. fsplit ! $
        peeks ! E (Is E) (shows 𝓛 E) x vss.0 (λ is. let got = lone vss.0 is in
        rewrite ! 0 (λ (ws : List Val). ‵ (E.own_val x ws)) got.1 refl $ show ! (Held 1 E x) got.0 $
        check ! (ap only e ∙ ap (λ ws. live 1 (of_list ws)) (f ∙ ap (λ ws. ws ++ []) got.1), got.2) $ keep ! (0 ∷ []) $ done !)))))

  module _ (K V : RattleType) (κ : Lft) (x : Bor K.Denot × MutBor V.Denot) (v : Val) where
    -- the type `(&K, &mut V)`
    abbrev pub Entry : RattleType
    Entry = Tuple (ShrRef (named 0) κ K ∷ MutRef (named 0) κ V ∷ [])

    abbrev pub entry_val : Val
    entry_val = vstruct (vcons (vptr x.0.ref_ptr.0 x.0.ref_ptr.1) (vcons (vptr x.1.ref_ptr.0 x.1.ref_ptr.1) vnil))

    pub entry_told : ent 𝓤 (sem 𝓛 (Entry.own_val x (v ∷ []))) (guard 𝓤 (v ≡ entry_val) (sem 𝓛 (Entry.own_val x (entry_val ∷ []))))
    entry_told =
        qed 𝓛 (‵ (Entry.own_val x (v ∷ [])) ∷ []) ∵ peeks ! Entry _ (shows 𝓛 Entry) x (v ∷ []) (λ is.
        let f = shr_Tells (named 0) κ K x.0 is.0.0 is.1.1.0 in let g = mut_Tells (named 0) κ V x.1 is.0.1.0 is.1.1.1.0 in
        let e : v ≡ entry_val = ap only is.1.0 ∙ (λ k. vstruct (of_list (f k ++ (g k ++ [])))) in
        rewrite ! 0 (λ (u : Val). ‵ (Entry.own_val x (u ∷ []))) e refl $ check ! e $ done !)

-- a `Result` is `Ok` or `Err`
pub which : {A E : Type 0} (r : Result A E) → ((x : A) × (r ≡ Ok x)) ⊎ ((e : E) × (r ≡ Err e))
which (Ok x) = inl (x, refl)
which (Err e) = inr (e, refl)
