-- A `&mut` that is given up, and values that are put together to a struct or a tuple. Assumes `Logic`.
use Rattle.starlark_columns.proofs.LogicNames.{refl, List, [], ◌∷◌, Ura, Lifetime, Val, vstruct, vcons, vnil, of_list, ent, sep, Lft, fres, Logic, sem, ‵, ◌$◌, ◌∵◌, !, qed, by, move, keep, drop, fsplit3, fjoin, fpack, feq_i, updating, now, done, name_done, RattleType, Denots, Valss, owns, MutBor, MutRef, mut_vals, nothing, Struct, within, Tuple, tuple_type}
use denote.RattleType.{flat}
use denote.Struct.Declared.{shape}
use denote.Struct.Struct.{Shape}

module _ {M : Type 1} {𝓤 : Ura M} (𝓛 : Logic 𝓤) where
  open 𝓛 use {H}

  -- a `&mut` that is given up ends with the value that it has
  pub given_up : (R : RattleType) (ℓ : Lifetime) (κ : Lft) (r : MutBor R.Denot) → ent 𝓤 (sem 𝓛 ((MutRef ℓ κ R).own_val r (mut_vals r))) (H.⇛ (sem 𝓛 (fres r.ghost_name (R.coded.code r.now))))
  given_up R ℓ κ r = qed 𝓛 (‵ ((MutRef ℓ κ R).own_val r (mut_vals r)) ∷ []) ∵ updating ! $ fsplit3 ! $ drop ! $ name_done ! tt $ now ! $ keep ! (0 ∷ []) $ done !

  -- values put together to a struct
  pub as_struct : (S : Shape) (a : Denots S.fields) (vss : Valss S.fields) → ent 𝓤 (sem 𝓛 (owns S.fields a vss)) (sem 𝓛 ((Struct S).own_val a (vstruct (of_list (flat S.fields vss)) ∷ [])))
  as_struct S a vss = let all = vstruct (of_list (flat S.fields vss)) ∷ [] in
      qed 𝓛 (‵ (owns S.fields a vss) ∷ []) ∵ feq_i ! (List Val) all all refl $ fjoin ! $ fpack ! (Valss S.fields) (within S a all) vss $ done !

  -- two values put together to a tuple
  pub as_tuple : (R S : RattleType) (x : R.Denot) (y : S.Denot) (u v : Val)
      → ent 𝓤 (sep 𝓤 (sem 𝓛 (R.own_val x (u ∷ []))) (sem 𝓛 (S.own_val y (v ∷ [])))) (sem 𝓛 ((Tuple (R ∷ S ∷ [])).own_val (x, y) (vstruct (vcons u (vcons v vnil)) ∷ [])))
  as_tuple R S x y u v = qed 𝓛 (‵ (R.own_val x (u ∷ [])) ∷ ‵ (S.own_val y (v ∷ [])) ∷ []) ∵ nothing ! $ move ! (2 ∷ 0 ∷ []) $ fjoin ! $ move ! (1 ∷ 0 ∷ []) $ fjoin ! $
      by ! (as_struct (shape (tuple_type (R ∷ S ∷ []))) (x, (y, tt)) (u ∷ [], (v ∷ [], tt)))
