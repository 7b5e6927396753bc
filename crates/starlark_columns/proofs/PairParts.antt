-- A pair in memory as its two parts, and back; and two parts of a lent item, of which one is shared by a `&` and the
-- other lent by a `&mut`. Assumes `Logic`.
use Rattle.starlark_columns.proofs.LogicNames.{refl, ℕ, zero, ◌+◌, List, [], ◌∷◌, Ura, Lifetime, Val, vptr, full_share, SProp, ent, sep, emp, wand, id⊢, all_e, apply∗, Lft, GName, Share, Fml, Incl, Incl-refl, ftrue, fseps, flft, fobs, fbor, fauth, fobor, Gv, size, align, up, Item, ‵, raw, ◌⊛◌, some, later, mean, ◌$◌, ◌∵◌, !, qed, by, move, keep, use0, use1, use2, split, split3, pick, fsplit, fsplit3, fjoin, fjoin3, feq_i, group, await, updating, now, show, done, Logic, sem, SemTy, Body, takes_beside, mem, lone, part_at, part_of, hide, Laws, RattleType, Denots, MutRef, ShrRef, lawfuls, Member, row_of, rows_of, parts_at, shape_of, PartsBack, Struct-parts, Struct, Tuple, tuple_type, parts_loose}
use types.Follow.{after}

-- a type with one machine value, as a field
abbrev pub part : RattleType → Member
part T = record { row = T; ty = lone T.mir }

module _ (m n : Member) where
  abbrev R : RattleType
  R = row_of m

  abbrev S : RattleType
  S = row_of n

  abbrev pub Pair : RattleType
  Pair = Tuple (R ∷ S ∷ [])

  -- the offsets of both parts of the pair at o
  abbrev pub first_at : ℕ → ℕ
  first_at o = o + up (align m.ty) zero

  abbrev pub second_at : ℕ → ℕ
  second_at o = o + up (align n.ty) (up (align m.ty) zero + size m.ty)

  abbrev ms : List Member
  ms = m ∷ n ∷ []

  abbrev to : Pair.Denot → Denots (rows_of ms)
  to d = (d.0, (d.1, tt))

  module _ (LR : Laws R) (LS : Laws S) {M : Type 1} {𝓤 : Ura M} (𝓛 : Logic 𝓤) (b o : ℕ) where
    abbrev pub Back : SProp 𝓤
    Back = PartsBack 𝓛 full_share (tuple_type (R ∷ S ∷ [])).name ms b o

    abbrev pub First : R.Denot → Fml
    First x = part_at R full_share x b (first_at o)

    abbrev pub Second : S.Denot → Fml
    Second y = part_at S full_share y b (second_at o)

    pub apart : (p : Pair.Denot) → ent 𝓤 (sem 𝓛 (part_at Pair full_share p b o)) (sep 𝓤 (sem 𝓛 (First p.0)) (sep 𝓤 (sem 𝓛 (Second p.1)) Back))
    unfolding part_of
    apart p = qed 𝓛 (‵ (part_at Pair full_share p b o) ∷ []) ∵ use1 𝓛 (‵ (parts_at full_share ms zero (to p) b o) ⊛ raw Back)
        (Struct-parts 𝓛 full_share (tuple_type (R ∷ S ∷ [])).name ms (lawfuls 𝓛 (tuple_type (R ∷ S ∷ [])).parts (parts_loose (R ∷ S ∷ []) (LR, (LS, tt)))) (to p) b o) $
        split ! $ fsplit3 ! $ keep ! (0 ∷ 1 ∷ 3 ∷ []) $ done !

    pub together : (p : Pair.Denot) → ent 𝓤 (sep 𝓤 (sem 𝓛 (Second p.1)) (sep 𝓤 (sem 𝓛 (First p.0)) Back)) (sem 𝓛 (part_at Pair full_share p b o))
    unfolding part_of
    together p = let a' : Denots (rows_of ms) = to p in
        qed 𝓛 (‵ (Second p.1) ∷ ‵ (First p.0) ∷ raw Back ∷ []) ∵ use0 𝓛 (‵ ftrue) (id⊢ 𝓤 (emp 𝓤)) $ move ! (1 ∷ 0 ∷ []) $ fjoin ! $ move ! (1 ∷ 0 ∷ []) $ fjoin ! $ move ! (1 ∷ []) $
        use1 𝓛 (raw (wand 𝓤 (sem 𝓛 (parts_at full_share ms zero a' b o)) (sem 𝓛 (part_at (Struct (shape_of (tuple_type (R ∷ S ∷ [])).name ms)) full_share a' b o))))
        (all_e 𝓤 (λ (a : Denots (rows_of ms)). wand 𝓤 (sem 𝓛 (parts_at full_share ms zero a b o)) (sem 𝓛 (part_at (Struct (shape_of (tuple_type (R ∷ S ∷ [])).name ms)) full_share a b o))) a') $
        move ! (1 ∷ 0 ∷ []) $ by ! (apply∗ 𝓤 (sem 𝓛 (parts_at full_share ms zero a' b o)) (sem 𝓛 (part_at (Struct (shape_of (tuple_type (R ∷ S ∷ [])).name ms)) full_share a' b o)))

-- ---- an item whose borrow is open, of which one part is shared and another lent
module _ (I : SemTy) (K V : RattleType) (LK : Laws K) {M : Type 1} {𝓤 : Ura M} (𝓛 : Logic 𝓤) (κ : Lft) (q : Share) (b o ok ov : ℕ) (γ : GName) (ℓ : Lifetime) (long : Incl κ K.lives) (x : K.Denot) (y : V.Denot)
    (put : V.Denot → I.rep) (Rest : SProp 𝓤) where
  open 𝓛 use {H, A}

  abbrev Shared : Fml
  Shared = part_at K full_share x b ok

  abbrev pub Parted : GName → Item 𝓤
  Parted δ = ‵ ((ShrRef ℓ κ K).own_val (record { ref_ptr = (b, ok); now = x }) (vptr b ok ∷ [])) ⊛ ‵ ((MutRef ℓ κ V).own_val (record { ref_ptr = (b, ov); ghost_name = δ; now = y }) (vptr b ov ∷ [])) ⊛ ‵ (flft κ q)

  module _ (again : (v : V.Denot) → ent 𝓤 (sep 𝓤 (sem 𝓛 ((mem V).own_at v b ov)) (sep 𝓤 (sem 𝓛 (part_at K full_share x b ok)) Rest)) (sem 𝓛 (I.own_at (put v) b o))) where
    pub parts_leave : (u w : Gv) → ent 𝓤 (sep 𝓤 (A.obor κ q (Body I b o γ)) (sep 𝓤 (A.obs γ u) (sep 𝓤 (A.auth γ w) (sep 𝓤 (sem 𝓛 ((mem V).own_at y b ov)) (sep 𝓤 (sem 𝓛 (part_at K full_share x b ok)) Rest))))) (H.⇛ (mean 𝓛 (some Parted)))
    unfolding fseps
    parts_leave u w =
        qed 𝓛 (‵ (fobor κ q (Body I b o γ)) ∷ ‵ (fobs γ u) ∷ ‵ (fauth γ w) ∷ ‵ ((mem V).own_at y b ov) ∷ ‵ Shared ∷ raw Rest ∷ []) ∵ updating ! $
        use0 𝓛 (‵ ftrue) (id⊢ 𝓤 (emp 𝓤)) $ move ! (5 ∷ 0 ∷ []) $ fjoin ! $ move ! (1 ∷ 2 ∷ 3 ∷ 4 ∷ 0 ∷ 5 ∷ []) $ group ! 6 $
        use1 𝓛 (later (some (λ (δ : GName). ‵ (fobs δ (V.coded.code y)) ⊛ ‵ (fbor κ (Body (mem V) b ov δ)) ⊛ ‵ (flft κ q) ⊛ ‵ (after I (mem V) γ δ put) ⊛ (‵ (fbor κ Shared) ⊛ raw (emp 𝓤)))))
        (takes_beside 𝓛 I (mem V) put κ q b o b ov γ (Shared ∷ []) Rest
        (λ v. qed 𝓛 (‵ ((mem V).own_at v b ov) ∷ ‵ (fseps (Shared ∷ [])) ∷ raw Rest ∷ []) ∵ move ! (1 ∷ []) $ fsplit ! $ keep ! (2 ∷ 0 ∷ 3 ∷ []) $ by ! (again v)) u w y) $ await ! tt $ pick ! (λ δ. split3 ! $
        feq_i ! (List Val) (vptr b ov ∷ []) (vptr b ov ∷ []) refl $ fjoin3 ! $ move ! (1 ∷ []) $ split3 ! $ move ! (2 ∷ []) $ split ! $
        -- [the borrow of the shared part; nothing; the token; what follows; the `&mut`]
        move ! (0 ∷ 2 ∷ []) $ use2 𝓛 (later (‵ (K.shr_at x b ok κ) ⊛ ‵ (flft κ q))) (LK.shares 𝓛 x κ ((κ, q) ∷ []) b ok long (Incl-refl κ)) $ await ! tt $ split ! $
        hide ! $ feq_i ! (List Val) (vptr b ok ∷ []) (vptr b ok ∷ []) refl $ fjoin ! $ now ! $ show ! (λ (z : GName). mean 𝓛 (Parted z)) δ $ keep ! (0 ∷ 4 ∷ 1 ∷ []) $ done !)
