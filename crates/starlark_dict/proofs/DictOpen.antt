-- A `Dict` in memory is the small map inside, and back, at any map whose keys are under their own hashes. Assumes `Logic`.
use Rattle.starlark_columns.proofs.LogicNames.{◌≡◌, ℕ, ◌+◌, [], ◌∷◌, Ura, full_share, SProp, ent, sep, ex, ‵, raw, some, ◌$◌, ◌∵◌, !, qed, by, use1, use2, pick, show, done, Logic, sem, RattleType, part_at, part_of, lone, plain_out, Plain-in, view_made, Laws, lawfuls, Member}
use Rattle.starlark_columns.proofs.ProofSteps.{place, Others, first_out, first_in}
use Rattle.std.specs.declared.cmp.PartialEq as PartialEq
use Rattle.std.specs.declared.hash.Hash as Hash
use Rattle.starlark_small.specs.contracts.small_map.SmallMap as part
use Rattle.starlark_dict.specs.declared.dict.Dict.TheInside.{Inside}
pub use Rattle.starlark_dict.specs.contracts.dict.Dict as C
use Rattle.starlark_dict.specs.contracts.dict.Dict.TheInside as I
use Rattle.starlark_dict.proofs.dict.Dict.TheLaws as T
use Rattle.starlark_dict.proofs.dict.Dict.TheInside.TheLaws as IL

module _ (K V : RattleType) (P : PartialEq.Ghosts K.Denot) (G : Hash.Ghosts K.Denot) where
  -- the type `Dict<K, V>`, whose value is the model
  abbrev pub W : RattleType
  W = C.the_row K V P G

  -- the fields of a `Dict<K, V>`
  abbrev pub D : Type 0
  D = Inside K.Denot V.Denot

  -- the fields d have the model v and meet the invariant
  abbrev pub Known : W.Denot → D → Type 0
  Known v d = (C.the_view K V P G d ≡ v) × C.the_invariant K V P G d

  -- the type of the map inside, `SmallMap<K, V>`
  abbrev pub CP : RattleType
  CP = part.the_row K V P

  -- the one field, which is the map inside
  abbrev inside : Member
  inside = record { row = CP; ty = lone CP.mir }

  -- the offset of the map inside in the struct
  abbrev pub eP : ℕ
  eP = place inside [] (I.the_type K V P G).name

  module _ {M : Type 1} {𝓤 : Ura M} (𝓛 : Logic 𝓤) (b o : ℕ) where
    -- the other fields in memory, of which there are none, and the way back to the struct
    abbrev pub Rest : D → SProp 𝓤
    Rest d = Others inside [] (I.the_type K V P G).name 𝓛 b o ((I.the_type K V P G).to d)

    -- the map inside in memory, and the rest
    abbrev pub Cuts : (v : W.Denot) → ((d : D) × Known v d) → SProp 𝓤
    Cuts v d = sep 𝓤 (sem 𝓛 (part_at CP full_share d.0.map b (o + eP))) (Rest d.0)

    -- takes the struct in memory apart
    pub cut : Laws K → Laws V → (v : W.Denot) → ent 𝓤 (sem 𝓛 (part_at W full_share v b o)) (ex 𝓤 (Cuts v))
    unfolding part_of
    cut LK LV v =
        qed 𝓛 (‵ (part_at W full_share v b o) ∷ []) ∵ use1 𝓛 (some (λ (d : (d : D) × Known v d). ‵ (part_at (I.the_row K V P G) full_share d.0 b o))) (plain_out W (I.the_row K V P G) (T.the_opens K V P G) 𝓛 full_share v b o) $ pick ! (λ d.
        use1 𝓛 (raw (Cuts v d)) (first_out inside [] (I.the_type K V P G).name 𝓛 b o ((I.the_type K V P G).to d.0) (lawfuls 𝓛 (I.the_type K V P G).parts (IL.the_loose K V P G LK LV))) $ show ! (Cuts v) d $ done !)

    -- puts the struct together again
    pub shut : (v : W.Denot) (d' : D) → Known v d' → ent 𝓤 (sep 𝓤 (sem 𝓛 (part_at CP full_share d'.map b (o + eP))) (Rest d')) (sem 𝓛 (part_at W full_share v b o))
    unfolding part_of
    shut v d' k =
        qed 𝓛 (‵ (part_at CP full_share d'.map b (o + eP)) ∷ raw (Rest d') ∷ []) ∵ use2 𝓛 (‵ (part_at (I.the_row K V P G) full_share d' b o)) (first_in inside [] (I.the_type K V P G).name 𝓛 b o ((I.the_type K V P G).to d')) $
        by ! (Plain-in W (I.the_row K V P G) (T.the_opens K V P G) 𝓛 full_share v d' (view_made (I.the_row K V P G) W.Denot W.coded (C.the_view K V P G) (C.the_invariant K V P G) 𝓛 v d' k) b o)
