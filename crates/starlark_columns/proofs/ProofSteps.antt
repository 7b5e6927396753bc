-- Steps that proofs by hand share: the laws of references, a reference that is lent again for a call, and the first
-- field of a struct, which is taken out and put back. Assumes `Logic`.
use base.Share
use denote.Laws.{Lawfuls}
use mir.Syntax.{Sym}
use Rattle.starlark_columns.proofs.LogicNames.{refl, sym, subst, ap, ℕ, [], ◌∷◌, Ura, full_share, common, named, Val, SProp, ent, sep, ex, wand, id⊢, apply∗, Lft, GName, Share, fdead, flft, fres, Logic, sem, lft_new, lft_end, lft-common, meet_⊑_left, ‵, raw, ◌⊛◌, some, later, ◌$◌, ◌∵◌, !, qed, by, move, use1, use2, use3, split, join, pick, updating, now, await, show, done, fsplit, fjoin, zero, ◌+◌, List, used_at, size, align, up, Denots, part_at, Member, row_of, rows_of, parts_at, shape_of, PartsBack, Struct-parts, Struct, LentAgain, lends_again, comes_back, RattleType, Is, layout, Laws, Good, is_one, of_field, row_shared, copy_shared, mut_ref_shared, mut_ref_field, mut_ref_laws, shr_ref_field, shr_ref_laws, shr_ref_copy, MutBor, MutRef, NamedLft, ShrRef, mut_vals, only}
use Rattle.starlark_columns.proofs.LoneValue.{lone_value}

pub mut_laws : (κ : Lft) (R : RattleType) → Laws R → Laws (MutRef (named 0) κ R)
mut_laws κ R L = let a : NamedLft = record { mir = named 0; lft = κ } in let one = is_one R L in of_field (mut_ref_field a R one) (mut_ref_laws a R one) refl (mut_ref_shared a R one (row_shared R L))

pub shr_laws : (κ : Lft) (R : RattleType) → Laws R → Laws (ShrRef (named 0) κ R)
shr_laws κ R L =
    let a : NamedLft = record { mir = named 0; lft = κ } in let one = is_one R L in
    of_field (shr_ref_field a R one) (shr_ref_laws a R one) refl (copy_shared (shr_ref_field a R one) (shr_ref_copy a R one L.shr_laws))

module _ {M : Type 1} {𝓤 : Ura M} (𝓛 : Logic 𝓤) where
  -- the machine value of a type fits the type's layout
  pub good_value : (R : RattleType) → Laws R → (x : R.Denot) (v : Val) → Is R x (v ∷ []) → Good (layout R) v
  good_value R L x v is = let t = lone_value 𝓛 R L x (v ∷ []) is in subst (Good (layout R)) (sym (ap only t.1)) t.2

  module _ (R : RattleType) (κ : Lft) (q : Share) (r : MutBor R.Denot) where
    open 𝓛 use {A, H}

    -- the share of the lifetime for which the reference is lent again
    abbrev pub within : Share
    within = (common full_share (Share.right q)).0

    -- what the lender keeps while the reference is lent
    abbrev pub Kept : ℕ → GName → SProp 𝓤
    Kept α δ =
        sep 𝓤 (sem 𝓛 (LentAgain R κ (α ∷ κ) (Share.left q) r.ghost_name r.ref_ptr.0 r.ref_ptr.1 δ r.now))
        (wand 𝓤 (A.lft (α ∷ κ) within) (sep 𝓤 (A.lft (α ∷ []) full_share) (A.lft κ (Share.right q))))

    abbrev pub Lent : ℕ → GName → SProp 𝓤
    Lent α δ = sep 𝓤 (A.lft (α ∷ κ) within) (sep 𝓤 (sem 𝓛 ((MutRef (named 0) (α ∷ κ) R).own_val (record r { ghost_name = δ }) (mut_vals r))) (Kept α δ))

    -- a reference is lent again, for a lifetime within its own
    pub lent_within : ent 𝓤 (sep 𝓤 (A.lft κ q) (sem 𝓛 ((MutRef (named 0) κ R).own_val r (mut_vals r)))) (H.⇛ (ex 𝓤 (λ (α : ℕ). ex 𝓤 (Lent α))))
    lent_within =
        let b = r.ref_ptr.0 in let o = r.ref_ptr.1 in let ql = Share.left q in let qr = Share.right q in
        qed 𝓛 (‵ (flft κ q) ∷ ‵ ((MutRef (named 0) κ R).own_val r (mut_vals r)) ∷ []) ∵ updating ! $
        use1 𝓛 (‵ (flft κ ql) ⊛ ‵ (flft κ qr)) (𝓛.lfts.lft_split κ q) $ split ! $ lft_new ! tt (λ α.
        -- [the token of α; the two halves of κ; the reference]
        move ! (3 ∷ 1 ∷ []) $ use2 𝓛 (later (some (λ (δ : GName). ‵ ((MutRef (named 0) (α ∷ κ) R).own_val (record r { ghost_name = δ }) (mut_vals r)) ⊛ ‵ (LentAgain R κ (α ∷ κ) ql r.ghost_name b o δ r.now))))
        (lends_again 𝓛 R (named 0) κ (α ∷ κ) ql r.ghost_name b o (named 0) r.now) $ await ! tt $ pick ! (λ δ. split ! $
        move ! (2 ∷ 3 ∷ []) $ use2 𝓛 (‵ (flft (α ∷ κ) within) ⊛ raw (wand 𝓤 (A.lft (α ∷ κ) within) (sep 𝓤 (A.lft (α ∷ []) full_share) (A.lft κ qr)))) (lft-common 𝓛 (α ∷ []) κ full_share qr) $ split ! $
        now ! $ show ! (λ (α : ℕ). ex 𝓤 (Lent α)) α $ show ! (Lent α) δ $ move ! (3 ∷ 1 ∷ []) $ join ! $ move ! (1 ∷ 2 ∷ 0 ∷ []) $ done !))

    -- a reference that was lent again comes back at its last value
    pub back_again : (α : ℕ) (δ : GName) (n : R.Denot)
        → ent 𝓤 (sep 𝓤 (sem 𝓛 (fres δ (R.coded.code n))) (sep 𝓤 (A.lft (α ∷ κ) within) (Kept α δ))) (H.⇛ (sep 𝓤 (sem 𝓛 ((MutRef (named 0) κ R).own_val (record r { now = n }) (mut_vals r))) (A.lft κ q)))
    back_again α δ n =
        let b = r.ref_ptr.0 in let o = r.ref_ptr.1 in let ql = Share.left q in let qr = Share.right q in
        qed 𝓛 (‵ (fres δ (R.coded.code n)) ∷ ‵ (flft (α ∷ κ) within) ∷ raw (Kept α δ) ∷ []) ∵ updating ! $ move ! (2 ∷ []) $
        use1 𝓛 (‵ (LentAgain R κ (α ∷ κ) ql r.ghost_name b o δ r.now) ⊛ raw (wand 𝓤 (A.lft (α ∷ κ) within) (sep 𝓤 (A.lft (α ∷ []) full_share) (A.lft κ qr)))) (id⊢ 𝓤 _) $ split ! $
        -- [what the lender keeps; the way back; what the loan ends as; its token]
        move ! (3 ∷ 1 ∷ []) $ use2 𝓛 (‵ (flft (α ∷ []) full_share) ⊛ ‵ (flft κ qr)) (apply∗ 𝓤 (A.lft (α ∷ κ) within) (sep 𝓤 (A.lft (α ∷ []) full_share) (A.lft κ qr))) $ split ! $
        lft_end ! tt $ use1 𝓛 (‵ (fdead (α ∷ κ))) (𝓛.lfts.dead-incl (α ∷ κ) (α ∷ []) (meet_⊑_left (α ∷ []) κ)) $
        move ! (0 ∷ 2 ∷ 3 ∷ []) $ use3 𝓛 (later (‵ ((MutRef (named 0) κ R).own_val (record r { now = n }) (mut_vals r)) ⊛ ‵ (flft κ ql))) (comes_back 𝓛 R (named 0) κ (α ∷ κ) ql r.ghost_name b o δ r.now n) $ await ! tt $ split ! $
        move ! (1 ∷ 2 ∷ []) $ use2 𝓛 (‵ (flft κ q)) (𝓛.lfts.lft_join κ q) $ now ! $ move ! (1 ∷ 0 ∷ []) $ done !

-- a struct with the first field m and the other fields `left`, by its name
module _ (m : Member) (left : List Member) (ν : Sym) where
  abbrev pub members : List Member
  members = m ∷ left

  abbrev pub place : ℕ
  place = up (align m.ty) zero

  module _ {M : Type 1} {𝓤 : Ura M} (𝓛 : Logic 𝓤) (b o : ℕ) (a : Denots (rows_of members)) where
    abbrev pub Others : SProp 𝓤
    Others = sep 𝓤 (sem 𝓛 (parts_at full_share left (place + size m.ty) a.1 b o)) (PartsBack 𝓛 full_share ν members b o)

    pub first_out : Lawfuls 𝓛 (rows_of members) → ent 𝓤 (sem 𝓛 (part_at (Struct (shape_of ν members)) full_share a b o)) (sep 𝓤 (sem 𝓛 (part_at (row_of m) full_share a.0 b (o + place))) Others)
    first_out laws =
        qed 𝓛 (‵ (part_at (Struct (shape_of ν members)) full_share a b o) ∷ []) ∵
        use1 𝓛 (‵ (parts_at full_share members zero a b o) ⊛ raw (PartsBack 𝓛 full_share ν members b o)) (Struct-parts 𝓛 full_share ν members laws a b o) $ split ! $ fsplit ! $ done !

    pub first_in : ent 𝓤 (sep 𝓤 (sem 𝓛 (part_at (row_of m) full_share a.0 b (o + place))) Others) (sem 𝓛 (part_at (Struct (shape_of ν members)) full_share a b o))
    first_in =
        qed 𝓛 (‵ (part_at (row_of m) full_share a.0 b (o + place)) ∷ (‵ (parts_at full_share left (place + size m.ty) a.1 b o) ⊛ raw (PartsBack 𝓛 full_share ν members b o)) ∷ []) ∵
        move ! (1 ∷ []) $ split ! $ move ! (2 ∷ 0 ∷ []) $ fjoin ! $
        by ! (used_at 𝓤 (λ (z : Denots (rows_of members)). sem 𝓛 (parts_at full_share members zero z b o)) (λ z. sem 𝓛 (part_at (Struct (shape_of ν members)) full_share z b o)) a)
