-- Pairs whose first parts do not change, from which the first or the last is taken, and the loan of the others is left
-- (`end_out`). Assumes `Logic`.
use Rattle.starlark_columns.proofs.LogicNames.{◌≡◌, refl, sym, ap, subst, ℕ, suc, ◌+◌, ◌*◌, ◌≤◌, suc-mul, arith, List, [], ◌∷◌, ◌++◌, length, length-append, Ura, ent, sep, emp, Lft, GName, Share, flft, fobs, fbor, coded_list, Item, ‵, raw, ◌⊛◌, some, later, mean, ◌$◌, ◌∵◌, !, qed, move, keep, drop, use1, use2, split, split3, pick, fsplit, fjoin, feq_i, feq_l, rewrite, group, await, updating, now, show, done, Logic, sem, cells, Body, open_ref, after₂, takes_two, mem, RattleType, nothing, at, at_mul, cut_app, join_app, add_times, inl, inr, ◌⊎◌, ◌-◌}
use Rattle.starlark_hash.proofs.Common.{Option, take, drop as behind, cases_lt, drop_all, length-take}
use Rattle.std.proofs.lemmas.List.{nil_from_length}
use Rattle.starlark_columns.specs.Cells.{items_of}
use Rattle.starlark_columns.specs.Front.{IsFront, with_items}
use Rattle.starlark_columns.proofs.ItemsAtFront.{all_written, split as cut_at}
use Rattle.starlark_vec2.specs.Loan.{with_seconds, Pair, Kept, KeptRun, lent_one, lent_run, IsEnd, TakesEnd}

module _ {T : Type 0} (from : ℕ) (rest : List T) (i : ℕ) where
  -- the item at an end, and the others, which begin at the index `next` of all
  pub record End : Type 0 where
    pub item : T
    pub others : List T
    pub next : ℕ
    pub takes : TakesEnd from rest i item next others
    pub by : ((rest ≡ item ∷ others) × (from ≡ i) × (suc from ≡ next)) ⊎ ((rest ≡ others ++ item ∷ []) × (from + length others ≡ i) × (from ≡ next))

  pub end_of : IsEnd from rest i → End
  end_of (more, ends) = elim (cases_lt from i) [
    | inl lt ↦
        let n = length rest - 1 in let cut = cut_at rest n (omega arith) in let last : rest ≡ take n rest ++ cut.0 ∷ [] = rw (drop_all (suc n) rest (omega arith)) at cut.1 in
        let count : length (take n rest) ≡ n = omega (arith, length-take n rest) in
        record { item = cut.0; others = take n rest; next = from; takes = grind (arith, last, count); by = inr (last, omega (arith, count), refl) }
    | inr le ↦
        let cut = cut_at rest 0 more in let here : from ≡ i = omega arith in
        record { item = cut.0; others = behind 1 rest; next = suc from; takes = grind (arith, cut.1, here, nil_from_length (behind 1 rest)); by = inl (cut.1, here, refl) }
  ]

  pub fewer_left : (d : End) → d.next + length d.others ≤ from + length rest
  fewer_left d = grind (arith, d.by, length-append)

module _ {K V : Type 0} where
  pub with_itself : (ps : List (K × V)) → with_seconds ps ps ≡ ps
  with_itself [] = refl
  with_itself (p ∷ ps) = cc (with_itself ps)

  pub length-with_seconds : (ps ws : List (K × V)) → length (with_seconds ps ws) ≡ length ps
  length-with_seconds [] ws = refl
  length-with_seconds (p ∷ ps) [] = cc (length-with_seconds ps [])
  length-with_seconds (p ∷ ps) (w ∷ ws) = cc (length-with_seconds ps ws)

  pub with_last : (ps ws : List (K × V)) (p w : K × V) → length ws ≡ length ps → with_seconds (ps ++ p ∷ []) (ws ++ w ∷ []) ≡ with_seconds ps ws ++ (p.0, w.1) ∷ []
  with_last [] [] p w e = refl
  with_last (q ∷ ps) (v ∷ ws) p w e = cc (with_last ps ws p w (omega arith))
  with_last ps ws p w e = absurd (omega arith)

  -- keeping the first parts twice is keeping them once
  pub kept_again : (ps ws : List (K × V)) → with_seconds ps (with_seconds ps ws) ≡ with_seconds ps ws
  kept_again [] ws = refl
  kept_again (p ∷ ps) [] = cc (kept_again ps [])
  kept_again (p ∷ ps) (w ∷ ws) = cc (kept_again ps ws)

  -- writing the second parts of a column's pairs twice is writing them once
  pub kept_items : (v : List (Option (K × V))) (n : ℕ) → IsFront v n → (ws : List (K × V)) → with_items v (with_seconds (items_of v) (items_of (with_items v (with_seconds (items_of v) ws)))) ≡ with_items v (with_seconds (items_of v) ws)
  kept_items v n front ws = rw (all_written v n front (with_seconds (items_of v) ws) (length-with_seconds (items_of v) ws), kept_again (items_of v) ws)

module _ (K V : RattleType) {M : Type 1} {𝓤 : Ura M} (𝓛 : Logic 𝓤) (κ : Lft) (q : Share) where
  open 𝓛 use {H, A}

  abbrev P : RattleType
  P = Pair K V

  abbrev One : Type 0
  One = K.Denot × V.Denot

  abbrev s : ℕ
  s = (mem P).size

  module _ (b o : ℕ) (γ : GName) (p : One) (ps : List One) where
    -- what is left of the loan: the right to write the pair at i, the loan of the others from j on, and the lifetime's
    -- token
    abbrev pub Off : ℕ → ℕ → GName × GName → Item 𝓤
    Off i j γs = ‵ (lent_one K V κ b i γs.0 p) ⊛ ‵ (lent_run K V κ b j γs.1 ps) ⊛ ‵ (flft κ q)

    -- takes the pair p from any place in the list `all`
    module _ (all : List One) (i j : ℕ) (put : One → List One → List One) (apart : ent 𝓤 (sem 𝓛 (cells (mem P) all b o)) (sep 𝓤 (sem 𝓛 ((mem P).own_at p b i)) (sem 𝓛 (cells (mem P) ps b j))))
        (long : (w : One) (ws : List One) → length ws ≡ length ps → length (put w ws) ≡ length all)
        (joint : (w : One) (ws : List One) → length ws ≡ length ps → ent 𝓤 (sep 𝓤 (sem 𝓛 ((mem P).own_at (p.0, w.1) b i)) (sem 𝓛 (cells (mem P) (with_seconds ps ws) b j))) (sem 𝓛 (cells (mem P) (with_seconds all (put w ws)) b o))) where
      off : ent 𝓤 (sep 𝓤 (sem 𝓛 (lent_run K V κ b o γ all)) (A.lft κ q)) (H.⇛ (mean 𝓛 (some (Off i j))))
      off =
          qed 𝓛 (‵ (lent_run K V κ b o γ all) ∷ ‵ (flft κ q) ∷ []) ∵ updating ! $ fsplit ! $ open_ref ! tt (KeptRun K V all) {x = all} {b = b} {o = o} $ fsplit ! $ drop ! $
          rewrite ! 0 (λ (l : List One). ‵ (cells (mem P) l b o)) (with_itself all) refl $ use1 𝓛 (‵ ((mem P).own_at p b i) ⊛ ‵ (cells (mem P) ps b j)) apart $ split ! $
          move ! (1 ∷ []) $ rewrite ! 0 (λ (l : List One). ‵ (cells (mem P) l b j)) (sym (with_itself ps)) refl $ feq_i ! ℕ (length ps) (length ps) refl $ fjoin ! $
          nothing ! $ move ! (3 ∷ 4 ∷ 5 ∷ 2 ∷ 1 ∷ 0 ∷ []) $ group ! 6 $
          use1 𝓛 (later (some (λ (γs : GName × GName). (‵ (fobs γs.0 (P.coded.code p)) ⊛ ‵ (fbor κ (Body (Kept K V p) b i γs.0))) ⊛ (‵ (fobs γs.1 ((coded_list P.coded).code ps)) ⊛ ‵ (fbor κ (Body (KeptRun K V ps) b j γs.1)))
          ⊛ ‵ (flft κ q) ⊛ ‵ (after₂ (KeptRun K V all) (Kept K V p) (KeptRun K V ps) γ γs.0 γs.1 put))))
          (takes_two 𝓛 (KeptRun K V all) (Kept K V p) (KeptRun K V ps) put κ q b o b i b j γ (emp 𝓤)
          (λ w ws. qed 𝓛 (‵ ((Kept K V p).own_at w b i) ∷ ‵ ((KeptRun K V ps).own_at ws b j) ∷ raw (emp 𝓤) ∷ []) ∵ move ! (1 ∷ []) $ fsplit ! $ feq_l ! (λ e. move ! (1 ∷ 0 ∷ []) $
          use2 𝓛 (‵ (cells (mem P) (with_seconds all (put w ws)) b o)) (joint w ws e) $ feq_i ! ℕ (length (put w ws)) (length all) (long w ws e) $ fjoin ! $ keep ! (0 ∷ []) $ done !))
          ((coded_list P.coded).code all) ((coded_list P.coded).code all) p ps) $ await ! tt $ pick ! (λ γs. split3 ! $
          split ! $ fjoin ! $ move ! (1 ∷ []) $ split ! $ fjoin ! $ move ! (2 ∷ []) $ split ! $ now ! $ show ! (λ (z : GName × GName). mean 𝓛 (Off i j z)) γs $ keep ! (3 ∷ 2 ∷ 0 ∷ []) $ done !)

    first_out : ent 𝓤 (sep 𝓤 (sem 𝓛 (lent_run K V κ b o γ (p ∷ ps))) (A.lft κ q)) (H.⇛ (mean 𝓛 (some (Off o (o + s)))))
    first_out = off (p ∷ ps) o (o + s) ◌∷◌ (qed 𝓛 (‵ (cells (mem P) (p ∷ ps) b o) ∷ []) ∵ fsplit ! $ done !) (λ w ws l. ap suc l)
        (λ w ws l. qed 𝓛 (‵ ((mem P).own_at (p.0, w.1) b o) ∷ ‵ (cells (mem P) (with_seconds ps ws) b (o + s)) ∷ []) ∵ fjoin ! $ done !)

    last_out : ent 𝓤 (sep 𝓤 (sem 𝓛 (lent_run K V κ b o γ (ps ++ p ∷ []))) (A.lft κ q)) (H.⇛ (mean 𝓛 (some (Off (at o s (length ps)) o))))
    last_out = let end = at o s (length ps) in off (ps ++ p ∷ []) end o (λ w ws. ws ++ w ∷ [])
        (qed 𝓛 (‵ (cells (mem P) (ps ++ p ∷ []) b o) ∷ []) ∵ use1 𝓛 (‵ (cells (mem P) ps b o) ⊛ ‵ (cells (mem P) (p ∷ []) b end)) (cut_app 𝓛 (mem P) ps (p ∷ []) b o) $ split ! $ move ! (1 ∷ []) $ fsplit ! $ keep ! (0 ∷ 2 ∷ []) $ done !)
        (λ w ws l. omega (arith, length-append ws (w ∷ []), length-append ps (p ∷ []), l))
        (λ w ws l. qed 𝓛 (‵ ((mem P).own_at (p.0, w.1) b end) ∷ ‵ (cells (mem P) (with_seconds ps ws) b o) ∷ []) ∵ rewrite ! 0 (λ (k : ℕ). ‵ ((mem P).own_at (p.0, w.1) b (at o s k))) (sym (length-with_seconds ps ws)) refl $
        nothing ! $ move ! (1 ∷ 0 ∷ []) $ fjoin ! $ move ! (1 ∷ 0 ∷ []) $ use2 𝓛 (‵ (cells (mem P) (with_seconds ps ws ++ (p.0, w.1) ∷ []) b o)) (join_app 𝓛 (mem P) (with_seconds ps ws) ((p.0, w.1) ∷ []) b o) $
        rewrite ! 0 (λ (t : List One). ‵ (cells (mem P) t b o)) (sym (with_last ps ws p w l)) refl $ done !)

  -- ---- taking the pair at either end
  module _ (b o : ℕ) (γ : GName) (from : ℕ) (rest : List One) (i : ℕ) where
    abbrev Out : (p : One) (ps : List One) → List One → ℕ → ℕ → Type 1
    Out p ps t k l = ent 𝓤 (sep 𝓤 (sem 𝓛 (lent_run K V κ b (from * s + o) γ t)) (A.lft κ q)) (H.⇛ (mean 𝓛 (some (Off b o γ p ps k l))))

    pub end_out : (d : End from rest i) → Out d.item d.others rest (i * s + o) (d.next * s + o)
    end_out d = let p = d.item in let ps = d.others in elim d.by [
      | inl h ↦
          let there : from * s + o + s ≡ d.next * s + o = omega (arith, suc-mul from s, ap (λ (k : ℕ). k * s) h.2) in
          subst (λ (t : Type 1). t) (λ j. Out p ps (sym h.0 j) (h.1 j * s + o) (there j)) (first_out b (from * s + o) γ p ps)
      | inr h ↦
          let there : at (from * s + o) s (length ps) ≡ i * s + o = omega (arith, at_mul (from * s + o) s (length ps), add_times from (length ps) s, ap (λ (k : ℕ). k * s) h.1) in
          subst (λ (t : Type 1). t) (λ j. Out p ps (sym h.0 j) (there j) (h.2 j * s + o)) (last_out b (from * s + o) γ p ps)
    ]
