-- Closing a whole of which two parts were lent to calls. One call leaves its part as it was, so that the two parts are
-- lent again as one, and what the other call says of its part closes the whole. Assumes `Logic`.
--
--   lent_beside    T, under the name δ, and X, under the name δ₂, are lent, and X ends as x:  T with x beside it is lent,
--        under the name δ
use Rattle.starlark_columns.proofs.LogicNames.{◌≡◌, refl, sym, ℕ, List, [], ◌∷◌, Ura, ent, sep, upd_i, Lft, GName, Fml, none, fsep, fwand, fupd, fdead, fauth, fres, flent, fseps, ‵, later, ◌$◌, ◌∵◌, !, qed, move, keep, drop, use1, use3, fsplit, fsplit3, fjoin, fpick, fpack, suffices, updating, await, now, assume, done, rewrite, Logic, sem, SemTy, Body, res_agree, RattleType, mem, follows_so, such_by, follows_by, ⊤}

module _ (T : SemTy) (X : RattleType) (x : X.Denot) (b₂ o₂ : ℕ) where
  abbrev pub Beside : SemTy
  Beside = record T { own_at = λ z b o. fsep (T.own_at z b o) ((mem X).own_at x b₂ o₂) }

  module _ {M : Type 1} {𝓤 : Ura M} (𝓛 : Logic 𝓤) (κ : Lft) (b o : ℕ) (δ δ₂ : GName) where
    open 𝓛 use {A, H}

    abbrev Both : List Fml
    Both = Body T b o δ ∷ Body (mem X) b₂ o₂ δ₂ ∷ []

    as_one : ent 𝓤 (A.res δ₂ (X.coded.code x)) (sem 𝓛 (fwand (fsep (fdead κ) (fseps Both)) (fupd (Body Beside b o δ))))
    unfolding fseps
    as_one =
        qed 𝓛 (‵ (fres δ₂ (X.coded.code x)) ∷ []) ∵ assume ! (‵ (fsep (fdead κ) (fseps Both))) $ suffices ! (sem 𝓛 (Body Beside b o δ)) (upd_i 𝓤 (sem 𝓛 (Body Beside b o δ))) $
        fsplit ! $ drop ! $ fsplit3 ! $ fpick ! (λ z. fsplit ! $ move ! (2 ∷ []) $ fpick ! (λ y. fsplit ! $
        -- [the second part; auth δ₂; the first; auth δ; nothing; res δ₂]
        move ! (5 ∷ 1 ∷ []) $ res_agree ! X.coded (λ e. rewrite ! 2 (λ (t : X.Denot). ‵ ((mem X).own_at t b₂ o₂)) (sym e) refl $ move ! (3 ∷ 2 ∷ []) $ fjoin ! $
        move ! (0 ∷ 3 ∷ []) $ fjoin ! $ fpack ! T.rep (λ t. fsep (Beside.own_at t b o) (fauth δ (T.coded.code t))) z $ keep ! (0 ∷ []) $ done !)))

    pub lent_beside : ent 𝓤 (sep 𝓤 (A.lent κ (Body T b o δ)) (sep 𝓤 (A.lent κ (Body (mem X) b₂ o₂ δ₂)) (sem 𝓛 (follows_so X X δ₂ none (λ _ _. ⊤) (λ n. n ≡ x))))) (H.⇛ (A.lent κ (Body Beside b o δ)))
    unfolding such_by follows_by
    lent_beside =
        qed 𝓛 (‵ (flent κ (Body T b o δ)) ∷ ‵ (flent κ (Body (mem X) b₂ o₂ δ₂)) ∷ ‵ (follows_so X X δ₂ none (λ _ _. ⊤) (λ n. n ≡ x)) ∷ []) ∵ updating ! $ move ! (2 ∷ []) $
        fpick ! (λ t. rewrite ! 0 (λ (n : X.Denot). ‵ (fres δ₂ (X.coded.code n))) t.2 refl $ use1 𝓛 (‵ (fwand (fsep (fdead κ) (fseps Both)) (fupd (Body Beside b o δ)))) as_one $
        move ! (1 ∷ 2 ∷ 0 ∷ []) $ use3 𝓛 (later (‵ (flent κ (Body Beside b o δ)))) (𝓛.more.lent_join κ (Body Beside b o δ) (Body T b o δ) (Body (mem X) b₂ o₂ δ₂)) $ await ! tt $ now ! $ done !)
