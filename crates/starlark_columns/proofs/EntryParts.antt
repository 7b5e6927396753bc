-- The parts of a lent item: a pair whose first part stays gives a `&` to it and a `&mut` to the second, and an entry of
-- which only the value changes gives a `&` to the key and a `&mut` to the value. Assumes `Logic`.
use Rattle.starlark_columns.proofs.LogicNames.{ℕ, [], ◌∷◌, Ura, Lifetime, SProp, ent, sep, Lft, GName, Share, Incl, flft, Item, ‵, raw, ◌⊛◌, some, later, mean, ◌$◌, ◌∵◌, !, qed, by, move, use1, use3, split3, fsplit, group, await, updating, now, done, Logic, sem, open_ref, Laws, RattleType, tuple_laws, Member, row_of}
use Rattle.starlark_columns.specs.Loan.{KeptItem, lent_item}
pub use Rattle.starlark_columns.proofs.LentParts.{as_tuple}
pub use Rattle.starlark_columns.proofs.PairParts.{part, Pair, first_at, second_at, Back, First, Second, apart, together, Parted, parts_leave}

module _ (k v : Member) (LK : Laws (row_of k)) (LV : Laws (row_of v)) {M : Type 1} {𝓤 : Ura M} (𝓛 : Logic 𝓤) (κ : Lft) (q : Share) (b o : ℕ) (γ : GName) (ℓ : Lifetime) (long : Incl κ (row_of k).lives) (p : (row_of k).Denot × (row_of v).Denot) where
  open 𝓛 use {H, A}

  abbrev P : RattleType
  P = Pair k v

  -- the pair w with the first part of x: only the second part changes
  abbrev first_kept : P.Denot → P.Denot → P.Denot
  first_kept x w = (x.0, w.1)

  abbrev pub Out : GName → Item 𝓤
  Out = Parted (KeptItem P first_kept p) (row_of k) (row_of v) LK 𝓛 κ q b o (first_at k v o) (second_at k v o) γ ℓ long p.0 p.1 (λ w. (p.0, w)) (Back k v LK LV 𝓛 b o)

  pub pair_out : ent 𝓤 (sep 𝓤 (sem 𝓛 (lent_item P first_kept κ b o γ p)) (A.lft κ q)) (H.⇛ (mean 𝓛 (some Out)))
  pair_out =
      qed 𝓛 (‵ (lent_item P first_kept κ b o γ p) ∷ ‵ (flft κ q) ∷ []) ∵ updating ! $ fsplit ! $ open_ref ! tt (KeptItem P first_kept p) {x = p} {b = b} {o = o} $
      use1 𝓛 (‵ (First k v LK LV 𝓛 b o p.0) ⊛ ‵ (Second k v LK LV 𝓛 b o p.1) ⊛ raw (Back k v LK LV 𝓛 b o)) (apart k v LK LV 𝓛 b o p) $ split3 ! $
      move ! (3 ∷ 4 ∷ 5 ∷ 1 ∷ 0 ∷ 2 ∷ []) $ group ! 6 $
      use1 𝓛 (later (some Out)) (parts_leave (KeptItem P first_kept p) (row_of k) (row_of v) LK 𝓛 κ q b o (first_at k v o) (second_at k v o) γ ℓ long p.0 p.1 (λ w. (p.0, w)) (Back k v LK LV 𝓛 b o) (λ w. together k v LK LV 𝓛 b o (p.0, w)) (P.coded.code p) (P.coded.code p)) $
      await ! tt $ now ! $ done !

module _ (r k v : Member) (LR : Laws (row_of r)) (LK : Laws (row_of k)) (LV : Laws (row_of v)) {M : Type 1} {𝓤 : Ura M} (𝓛 : Logic 𝓤) (κ : Lft) (q : Share) (b o : ℕ) (γ : GName) (ℓ : Lifetime) (long : Incl κ (row_of k).lives)
    (p : (row_of r).Denot × ((row_of k).Denot × (row_of v).Denot)) where
  open 𝓛 use {H, A}

  abbrev I : RattleType
  I = Pair k v

  abbrev E : RattleType
  E = Pair r (part I)

  abbrev LI : Laws I
  LI = tuple_laws (row_of k ∷ row_of v ∷ []) (LK, (LV, tt))

  -- the entry w with all of x but its value: only the value changes
  abbrev value_alone : E.Denot → E.Denot → E.Denot
  value_alone x w = (x.0, (x.1.0, w.1.1))

  -- the offset of the inner pair
  abbrev pub inner_at : ℕ
  inner_at = second_at r (part I) o

  abbrev Rest : SProp 𝓤
  Rest = sep 𝓤 (sem 𝓛 (First r (part I) LR LI 𝓛 b o p.0)) (sep 𝓤 (Back r (part I) LR LI 𝓛 b o) (Back k v LK LV 𝓛 b inner_at))

  abbrev pub Value : GName → Item 𝓤
  Value = Parted (KeptItem E value_alone p) (row_of k) (row_of v) LK 𝓛 κ q b o (first_at k v inner_at) (second_at k v inner_at) γ ℓ long p.1.0 p.1.1 (λ w. (p.0, (p.1.0, w))) Rest

  pub value_out : ent 𝓤 (sep 𝓤 (sem 𝓛 (lent_item E value_alone κ b o γ p)) (A.lft κ q)) (H.⇛ (mean 𝓛 (some Value)))
  value_out =
      qed 𝓛 (‵ (lent_item E value_alone κ b o γ p) ∷ ‵ (flft κ q) ∷ []) ∵ updating ! $ fsplit ! $ open_ref ! tt (KeptItem E value_alone p) {x = p} {b = b} {o = o} $
      use1 𝓛 (‵ (First r (part I) LR LI 𝓛 b o p.0) ⊛ ‵ (Second r (part I) LR LI 𝓛 b o p.1) ⊛ raw (Back r (part I) LR LI 𝓛 b o)) (apart r (part I) LR LI 𝓛 b o p) $ split3 ! $
      -- [the first part; the inner pair; the way back; the open borrow and its names]
      move ! (1 ∷ []) $ use1 𝓛 (‵ (First k v LK LV 𝓛 b inner_at p.1.0) ⊛ ‵ (Second k v LK LV 𝓛 b inner_at p.1.1) ⊛ raw (Back k v LK LV 𝓛 b inner_at)) (apart k v LK LV 𝓛 b inner_at p.1) $ split3 ! $
      -- [the key; the value; its way back; the first part; the way back; the open borrow and its names]
      move ! (5 ∷ 6 ∷ 7 ∷ 1 ∷ 0 ∷ 3 ∷ 4 ∷ 2 ∷ []) $ group ! 8 $
      use1 𝓛 (later (some Value)) (parts_leave (KeptItem E value_alone p) (row_of k) (row_of v) LK 𝓛 κ q b o (first_at k v inner_at) (second_at k v inner_at) γ ℓ long p.1.0 p.1.1 (λ w. (p.0, (p.1.0, w))) Rest
      (λ w. qed 𝓛 (‵ (Second k v LK LV 𝓛 b inner_at w) ∷ ‵ (First k v LK LV 𝓛 b inner_at p.1.0) ∷ (‵ (First r (part I) LR LI 𝓛 b o p.0) ⊛ raw (Back r (part I) LR LI 𝓛 b o) ⊛ raw (Back k v LK LV 𝓛 b inner_at)) ∷ []) ∵
      move ! (2 ∷ []) $ split3 ! $ move ! (3 ∷ 4 ∷ 2 ∷ []) $ use3 𝓛 (‵ (Second r (part I) LR LI 𝓛 b o (p.1.0, w))) (together k v LK LV 𝓛 b inner_at (p.1.0, w)) $ by ! (together r (part I) LR LI 𝓛 b o (p.0, (p.1.0, w))))
      (E.coded.code p) (E.coded.code p)) $
      await ! tt $ now ! $ done !
