-- A whole whose borrow stays open while a part of it is lent to a call, and the call's result owns the loan of the
-- part. What the call says of the part closes the whole, which then ends as a loan of a new name says. Assumes `Logic`.
--     closes_named    the whole R is open at (b, o), and its part T, under the name δ, follows γ' by G. With the
--         part at any G w the rest makes F w of the whole, and `keeps` changes no F w. So the whole follows a new
--         name by `keeps`
use Rattle.starlark_columns.proofs.LogicNames.{◌≡◌, refl, ℕ, [], ◌∷◌, Ura, SProp, ent, sep, wand, ex, all, used_at, upd_i, emp, wand_i, snd∗, Lft, GName, Share, fsep, fex, fwand, fupd, fdead, fobs, fauth, flent, flft, fseps, Gv, aged, ‵, raw, ◌⊛◌, later, ◌$◌, ◌∵◌, !, qed, move, keep, drop, use0, use1, use2, split, fsplit, fjoin, fpick, fpack, suffices, updating, await, now, show, assume, done, feq_l, rewrite, group, Logic, sem, deep, close_deep, SemTy, Body, came, Came, follows_anew, name_new, after₁}

module _ {M : Type 1} {𝓤 : Ura M} (𝓛 : Logic 𝓤) (R T U : SemTy) (G : U.rep → T.rep) (F : U.rep → R.rep) (keeps : R.rep → R.rep) (same : (w : U.rep) → keeps (F w) ≡ F w)
    (κ : Lft) (q : Share) (b o b' o' : ℕ) (γ δ γ' : GName) (Rest : SProp 𝓤)
    (back : (w : U.rep) → ent 𝓤 (sep 𝓤 (sem 𝓛 (T.own_at (G w) b' o')) Rest) (sem 𝓛 (R.own_at (F w) b o))) where
  open 𝓛 use {H, A}

  abbrev Outer : GName → SProp 𝓤
  Outer tie = all 𝓤 (λ (z : R.rep). wand 𝓤 (A.auth tie (R.coded.code z)) (A.auth γ (R.coded.code (keeps z))))

  abbrev Inner : GName → SProp 𝓤
  Inner tie = all 𝓤 (λ (w : U.rep). wand 𝓤 (A.auth γ' (U.coded.code w)) (A.auth tie (R.coded.code (F w))))

  way : (tie : GName) → ent 𝓤 (sep 𝓤 Rest (sep 𝓤 (Outer tie) (sep 𝓤 (Inner tie) (sem 𝓛 (after₁ T U δ γ' G))))) (sem 𝓛 (fwand (fsep (fdead κ) (fseps (Body T b' o' δ ∷ []))) (fupd (Body R b o γ))))
  unfolding fseps
  way tie =
      qed 𝓛 (raw Rest ∷ raw (Outer tie) ∷ raw (Inner tie) ∷ ‵ (after₁ T U δ γ' G) ∷ []) ∵ assume ! (‵ (fsep (fdead κ) (fseps (Body T b' o' δ ∷ [])))) $ suffices ! (sem 𝓛 (Body R b o γ)) (upd_i 𝓤 (sem 𝓛 (Body R b o γ))) $
      fsplit ! $ drop ! $ fsplit ! $ fpick ! (λ z. fsplit ! $ move ! (1 ∷ 6 ∷ []) $ use2 𝓛 (‵ (fex U.rep (Came 𝓛 T U G γ' z))) (came 𝓛 T U G δ γ' z) $ fpick ! (λ w. fsplit ! $ feq_l ! (λ e.
      rewrite ! 1 (λ (t : T.rep). ‵ (T.own_at t b' o')) e refl $ move ! (1 ∷ 3 ∷ []) $ use2 𝓛 (‵ (R.own_at (F w) b o)) (back w) $
      -- [the whole; auth γ'; nothing; the outer way of the names; the inner]
      move ! (1 ∷ 4 ∷ []) $ use2 𝓛 (‵ (fauth tie (R.coded.code (F w)))) (used_at 𝓤 (λ (t : U.rep). A.auth γ' (U.coded.code t)) (λ t. A.auth tie (R.coded.code (F t))) w) $
      move ! (0 ∷ 3 ∷ []) $ use2 𝓛 (‵ (fauth γ (R.coded.code (keeps (F w))))) (used_at 𝓤 (λ (t : R.rep). A.auth tie (R.coded.code t)) (λ t. A.auth γ (R.coded.code (keeps t))) (F w)) $
      rewrite ! 0 (λ (t : R.rep). ‵ (fauth γ (R.coded.code t))) (same w) refl $ move ! (1 ∷ 0 ∷ []) $ fjoin ! $ fpack ! R.rep (λ t. fsep (R.own_at t b o) (fauth γ (R.coded.code t))) (F w) $ keep ! (0 ∷ []) $ done !)))

  pub closes_named : (n : ℕ) (u v : Gv) (x : R.rep)
      → ent 𝓤 (sep 𝓤 (aged 𝓤 H A n κ q (Body R b o γ)) (sep 𝓤 (A.obs γ u) (sep 𝓤 (A.auth γ v) (sep 𝓤 (A.lent (deep n κ) (Body T b' o' δ)) (sep 𝓤 (sem 𝓛 (after₁ T U δ γ' G)) Rest)))))
      (H.⇛ (ex 𝓤 (λ tie. sep 𝓤 (A.lft κ q) (sem 𝓛 (after₁ R R γ tie keeps)))))
  closes_named n u v x =
      qed 𝓛 (raw (aged 𝓤 H A n κ q (Body R b o γ)) ∷ ‵ (fobs γ u) ∷ ‵ (fauth γ v) ∷ ‵ (flent (deep n κ) (Body T b' o' δ)) ∷ ‵ (after₁ T U δ γ' G) ∷ raw Rest ∷ []) ∵ updating ! $
      name_new ! tt (R.coded.code x) (λ tie. use2 𝓛 (later (‵ (after₁ R U tie γ' F) ⊛ raw (Inner tie))) (follows_anew 𝓛 R U F tie γ' (R.coded.code x) (R.coded.code x)) $ await ! tt $ split ! $ drop ! $
      -- [the inner way; the open borrow; obs; auth; the right; what δ follows; the rest]
      move ! (2 ∷ 3 ∷ []) $ use2 𝓛 (later (‵ (after₁ R R γ tie keeps) ⊛ raw (Outer tie))) (follows_anew 𝓛 R R keeps γ tie u v) $ await ! tt $ split ! $
      -- [what γ follows; the outer way; the inner; the open borrow; the right; what δ follows; the rest]
      move ! (6 ∷ 1 ∷ 2 ∷ 5 ∷ []) $ group ! 4 $ use1 𝓛 (‵ (fwand (fsep (fdead κ) (fseps (Body T b' o' δ ∷ []))) (fupd (Body R b o γ)))) (way tie) $
      use0 𝓛 (raw (wand 𝓤 (A.dead κ) (A.dead κ))) (wand_i 𝓤 (emp 𝓤) (A.dead κ) (A.dead κ) (snd∗ 𝓤 (emp 𝓤) (A.dead κ))) $
      -- [its lifetime's end; the way back; what γ follows; the open borrow; the right]
      move ! (3 ∷ 4 ∷ 1 ∷ 0 ∷ []) $ group ! 4 $
      use1 𝓛 (later (‵ (flft κ q) ⊛ raw (wand 𝓤 (A.dead κ) (A.bor κ (Body R b o γ))))) (close_deep 𝓛 n κ κ q (Body R b o γ) (Body T b' o' δ)) $ await ! tt $ split ! $
      now ! $ show ! (λ (z : GName). sep 𝓤 (A.lft κ q) (sem 𝓛 (after₁ R R γ z keeps))) tie $ keep ! (0 ∷ 2 ∷ []) $ done !)
