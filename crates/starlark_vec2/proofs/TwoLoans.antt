-- A whole whose borrow stays open while two parts of it are lent for κ, under the names δ and δ'. The whole is closed
-- by what the parts end as, for any G w and G' w'. Assumes `Logic`.
use Rattle.starlark_columns.proofs.LogicNames.{◌≡◌, ap₂, refl, ℕ, [], ◌∷◌, Ura, and, guard, SProp, ent, sep, wand, ex, all, apply∗, all_e, upd_i, emp, wand_i, snd∗, Lft, GName, Share, Fml, fsep, fex, fwand, fupd, fdead, fobs, fauth, flent, flft, fseps, Gv, aged, ‵, raw, ◌⊛◌, later, ◌$◌, ◌∵◌, !, qed, move, keep, drop, use0, use1, use2, use3, split, join, fsplit, fsplit3, fjoin, fpick, fpack, suffices, updating, await, now, assume, done, feq_l, rewrite, group, Logic, sem, deep, close_deep, SemTy, Body, after₂, came, Came}
use types.Follow.{after}

module _ {M : Type 1} {𝓤 : Ura M} (𝓛 : Logic 𝓤) (R T T' U U' : SemTy) (G : U.rep → T.rep) (G' : U'.rep → T'.rep) (F : U.rep → U'.rep → R.rep)
    (κ : Lft) (q : Share) (b o b₁ o₁ b₂ o₂ : ℕ) (γ δ δ' γ₁ γ₂ : GName) (Rest : SProp 𝓤)
    (back : (w : U.rep) (w' : U'.rep) → ent 𝓤 (sep 𝓤 (sem 𝓛 (T.own_at (G w) b₁ o₁)) (sep 𝓤 (sem 𝓛 (T'.own_at (G' w') b₂ o₂)) Rest)) (sem 𝓛 (R.own_at (F w w') b o))) where
  open 𝓛 use {H, A}

  abbrev Both : U.rep × U'.rep → SProp 𝓤
  Both w = wand 𝓤 (sep 𝓤 (A.auth γ₁ (U.coded.code w.0)) (A.auth γ₂ (U'.coded.code w.1))) (A.auth γ (R.coded.code (F w.0 w.1)))

  -- both parts
  abbrev Two : Fml
  Two = fsep (Body T b₁ o₁ δ) (Body T' b₂ o₂ δ')

  way : ent 𝓤 (sep 𝓤 Rest (sep 𝓤 (all 𝓤 Both) (sep 𝓤 (sem 𝓛 (after T U δ γ₁ G)) (sem 𝓛 (after T' U' δ' γ₂ G'))))) (sem 𝓛 (fwand (fsep (fdead κ) (fseps (Two ∷ []))) (fupd (Body R b o γ))))
  unfolding fseps
  way =
      qed 𝓛 (raw Rest ∷ raw (all 𝓤 Both) ∷ ‵ (after T U δ γ₁ G) ∷ ‵ (after T' U' δ' γ₂ G') ∷ []) ∵ assume ! (‵ (fsep (fdead κ) (fseps (Two ∷ [])))) $ suffices ! (sem 𝓛 (Body R b o γ)) (upd_i 𝓤 (sem 𝓛 (Body R b o γ))) $
      fsplit ! $ drop ! $ fsplit ! $ fsplit ! $ fpick ! (λ z. fsplit ! $
      move ! (1 ∷ 6 ∷ []) $ use2 𝓛 (‵ (fex U.rep (Came 𝓛 T U G γ₁ z))) (came 𝓛 T U G δ γ₁ z) $ fpick ! (λ w. fsplit ! $ feq_l ! (λ e.
      rewrite ! 1 (λ (t : T.rep). ‵ (T.own_at t b₁ o₁)) e refl $ move ! (2 ∷ []) $ fpick ! (λ z'. fsplit ! $
      move ! (1 ∷ 7 ∷ []) $ use2 𝓛 (‵ (fex U'.rep (Came 𝓛 T' U' G' γ₂ z'))) (came 𝓛 T' U' G' δ' γ₂ z') $ fpick ! (λ w'. fsplit ! $ feq_l ! (λ e'.
      rewrite ! 1 (λ (t : T'.rep). ‵ (T'.own_at t b₂ o₂)) e' refl $
      move ! (3 ∷ 1 ∷ 5 ∷ []) $ use3 𝓛 (‵ (R.own_at (F w w') b o)) (back w w') $ move ! (4 ∷ []) $ use1 𝓛 (raw (Both (w, w'))) (all_e 𝓤 Both (w, w')) $
      move ! (3 ∷ 2 ∷ []) $ join ! $ use2 𝓛 (‵ (fauth γ (R.coded.code (F w w')))) (apply∗ 𝓤 (sep 𝓤 (A.auth γ₁ (U.coded.code w)) (A.auth γ₂ (U'.coded.code w'))) (A.auth γ (R.coded.code (F w w')))) $
      move ! (1 ∷ 0 ∷ []) $ fjoin ! $ fpack ! R.rep (λ t. fsep (R.own_at t b o) (fauth γ (R.coded.code t))) (F w w') $ keep ! (0 ∷ []) $ done !))))))

  pub closes_both : (n : ℕ) (u v : Gv)
      → ent 𝓤 (sep 𝓤 (aged 𝓤 H A n κ q (Body R b o γ)) (sep 𝓤 (A.obs γ u) (sep 𝓤 (A.auth γ v) (sep 𝓤 (A.lent (deep n κ) (Body T b₁ o₁ δ)) (sep 𝓤 (A.lent (deep n κ) (Body T' b₂ o₂ δ')) (sep 𝓤 (sem 𝓛 (after T U δ γ₁ G)) (sep 𝓤 (sem 𝓛 (after T' U' δ' γ₂ G')) Rest)))))))
      (H.⇛ (sep 𝓤 (A.lft κ q) (sem 𝓛 (after₂ R U U' γ γ₁ γ₂ F))))
  unfolding fseps
  closes_both n u v =
      let One = Body T b₁ o₁ δ in let Other = Body T' b₂ o₂ δ' in let Says : SProp 𝓤 = sem 𝓛 (after₂ R U U' γ γ₁ γ₂ F) in
      let Comes : SProp 𝓤 = all 𝓤 (λ (g : Gv). wand 𝓤 (A.auth γ g) (ex 𝓤 (λ (w : U.rep × U'.rep). guard 𝓤 (g ≡ R.coded.code (F w.0 w.1)) (sep 𝓤 (A.auth γ₁ (U.coded.code w.0)) (A.auth γ₂ (U'.coded.code w.1)))))) in
      qed 𝓛 (raw (aged 𝓤 H A n κ q (Body R b o γ)) ∷ ‵ (fobs γ u) ∷ ‵ (fauth γ v) ∷ ‵ (flent (deep n κ) One) ∷ ‵ (flent (deep n κ) Other) ∷ ‵ (after T U δ γ₁ G) ∷ ‵ (after T' U' δ' γ₂ G') ∷ raw Rest ∷ []) ∵ updating ! $ move ! (1 ∷ 2 ∷ []) $
      use2 𝓛 (later (raw (and 𝓤.op Says Comes) ⊛ raw (all 𝓤 Both)))
      (𝓛.names.name_follow γ γ₁ γ₂ (U.rep × U'.rep) (λ w. U.coded.code w.0) (λ w. U'.coded.code w.1) (λ w. R.coded.code (F w.0 w.1)) (λ s t e e'. ap₂ (λ x₁ x₂. R.coded.code (F x₁ x₂)) (U.coded.inj s.0 t.0 e) (U'.coded.inj s.1 t.1 e')) u v) $ await ! tt $ split ! $
      use1 𝓛 (‵ (after₂ R U U' γ γ₁ γ₂ F)) (record { apply = λ a p. p.0 }) $
      -- [what γ follows; the way of the names; the open borrow; the two rights; what δ and δ' follow; the rest]
      move ! (7 ∷ 1 ∷ 5 ∷ 6 ∷ []) $ group ! 4 $ use1 𝓛 (‵ (fwand (fsep (fdead κ) (fseps (Two ∷ []))) (fupd (Body R b o γ)))) way $
      use0 𝓛 (‵ (fwand (fsep (fdead (deep n κ)) (fseps (One ∷ Other ∷ []))) (fupd Two)))
      (qed 𝓛 [] ∵ assume ! (‵ (fsep (fdead (deep n κ)) (fseps (One ∷ Other ∷ [])))) $ suffices ! (sem 𝓛 Two) (upd_i 𝓤 (sem 𝓛 Two)) $ fsplit ! $ drop ! $ fsplit3 ! $ fjoin ! $ keep ! (0 ∷ []) $ done !) $
      move ! (4 ∷ 5 ∷ 0 ∷ []) $ use3 𝓛 (later (‵ (flent (deep n κ) Two))) (𝓛.more.lent_join (deep n κ) Two One Other) $ await ! tt $
      use0 𝓛 (raw (wand 𝓤 (A.dead κ) (A.dead κ))) (wand_i 𝓤 (emp 𝓤) (A.dead κ) (A.dead κ) (snd∗ 𝓤 (emp 𝓤) (A.dead κ))) $ move ! (4 ∷ 1 ∷ 2 ∷ 0 ∷ []) $ group ! 4 $
      use1 𝓛 (later (‵ (flft κ q) ⊛ raw (wand 𝓤 (A.dead κ) (A.bor κ (Body R b o γ))))) (close_deep 𝓛 n κ κ q (Body R b o γ) Two) $ await ! tt $ split ! $ now ! $ keep ! (0 ∷ 2 ∷ []) $ done !
