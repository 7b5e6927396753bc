-- A `VecMap` in memory as its columns and the other fields, and back, for any columns. Assumes `Logic`.
use Rattle.starlark_columns.proofs.LogicNames.{◌≡◌, ℕ, ◌+◌, [], ◌∷◌, Ura, full_share, SProp, ent, sep, ex, ‵, raw, some, ◌$◌, ◌∵◌, !, qed, by, use1, use2, pick, show, done, Logic, sem, u32, RattleType, part_at, part_of, lone, plain_out, Plain-in, view_made, Laws, lawfuls, Member}
use Rattle.starlark_columns.proofs.ProofSteps.{place, Others, first_out, first_in}
use Rattle.starlark_vec2.specs.Loan.{Pair}
use Rattle.starlark_vec2.specs.contracts.vec2.Vec2 as part
use Rattle.starlark_vecmap.specs.declared.vec_map.VecMap.TheInside.{Inside}
use Rattle.starlark_vecmap.specs.contracts.vec_map.VecMap as C
use Rattle.starlark_vecmap.specs.contracts.vec_map.VecMap.TheInside as I
use Rattle.starlark_vecmap.proofs.vec_map.VecMap.TheLaws as T
use Rattle.starlark_vecmap.proofs.vec_map.VecMap.TheInside.TheLaws as IL

module _ (K V : RattleType) where
  -- the type `VecMap<K, V>`, whose value is the model
  abbrev pub W : RattleType
  W = C.the_row K V

  -- the fields of a `VecMap<K, V>`
  abbrev pub D : Type 0
  D = Inside K.Denot V.Denot

  -- the fields d have the model v and meet the invariant
  abbrev pub Known : W.Denot → D → Type 0
  Known v d = (C.the_view K V d ≡ v) × C.the_invariant K V d

  -- the type of the columns, `Vec2<(K, V), u32>`
  abbrev pub CP : RattleType
  CP = part.the_row (Pair K V) u32

  -- the one field, which is the columns
  abbrev columns_field : Member
  columns_field = record { row = CP; ty = lone CP.mir }

  -- the offset of the columns in the struct
  abbrev pub columns_offset : ℕ
  columns_offset = place columns_field [] (I.the_type K V).name

  module _ {M : Type 1} {𝓤 : Ura M} (𝓛 : Logic 𝓤) (b o : ℕ) where
    -- the other fields in memory, and the way back to the struct
    abbrev pub Rest : D → SProp 𝓤
    Rest d = Others columns_field [] (I.the_type K V).name 𝓛 b o ((I.the_type K V).to d)

    -- the columns in memory, and the rest
    abbrev pub Cuts : (v : W.Denot) → ((d : D) × Known v d) → SProp 𝓤
    Cuts v d = sep 𝓤 (sem 𝓛 (part_at CP full_share d.0.columns b (o + columns_offset))) (Rest d.0)

    -- takes the struct in memory apart
    pub cut : Laws K → Laws V → (v : W.Denot) → ent 𝓤 (sem 𝓛 (part_at W full_share v b o)) (ex 𝓤 (Cuts v))
    unfolding part_of
    cut LK LV v =
        qed 𝓛 (‵ (part_at W full_share v b o) ∷ []) ∵ use1 𝓛 (some (λ (d : (d : D) × Known v d). ‵ (part_at (I.the_row K V) full_share d.0 b o))) (plain_out W (I.the_row K V) (T.the_opens K V) 𝓛 full_share v b o) $ pick ! (λ d.
        use1 𝓛 (raw (Cuts v d)) (first_out columns_field [] (I.the_type K V).name 𝓛 b o ((I.the_type K V).to d.0) (lawfuls 𝓛 (I.the_type K V).parts (IL.the_loose K V LK LV))) $ show ! (Cuts v) d $ done !)

    -- puts the struct together again
    pub shut : (v : W.Denot) (d' : D) → Known v d' → ent 𝓤 (sep 𝓤 (sem 𝓛 (part_at CP full_share d'.columns b (o + columns_offset))) (Rest d')) (sem 𝓛 (part_at W full_share v b o))
    unfolding part_of
    shut v d' k =
        qed 𝓛 (‵ (part_at CP full_share d'.columns b (o + columns_offset)) ∷ raw (Rest d') ∷ []) ∵ use2 𝓛 (‵ (part_at (I.the_row K V) full_share d' b o)) (first_in columns_field [] (I.the_type K V).name 𝓛 b o ((I.the_type K V).to d')) $
        by ! (Plain-in W (I.the_row K V) (T.the_opens K V) 𝓛 full_share v d' (view_made (I.the_row K V) W.Denot W.coded (C.the_view K V) (C.the_invariant K V) 𝓛 v d' k) b o)
