-- A `SmallMap` in memory is its list of entries and the rest, and back, at any list of entries that goes with its index. Assumes `Logic`.
use Rattle.starlark_columns.proofs.LogicNames.{Ura, full_share, SProp, ent, sep, ex, ‵, raw, some, ◌$◌, ◌∵◌, !, qed, by, use1, use2, pick, show, done, Logic, sem, RattleType, part_at, part_of, lone, plain_out, Plain-in, view_made, Laws, lawfuls, Member, ◌≡◌, ℕ, ◌+◌, List, [], ◌∷◌}
use Rattle.std.specs.declared.cmp.PartialEq as PartialEq
use Rattle.starlark_columns.proofs.ProofSteps.{place, Others, first_out, first_in}
use Rattle.starlark_small.specs.contracts.index.Index as index
use Rattle.starlark_vecmap.specs.contracts.vec_map.VecMap as part
use Rattle.starlark_small.specs.declared.small_map.SmallMap.TheInside.{Inside}
pub use Rattle.starlark_small.specs.contracts.small_map.SmallMap as C
use Rattle.starlark_small.specs.contracts.small_map.SmallMap.TheInside as I
use Rattle.starlark_small.proofs.small_map.SmallMap.TheLaws as T
use Rattle.starlark_small.proofs.small_map.SmallMap.TheInside.TheLaws as IL

module _ (K V : RattleType) (g : PartialEq.Ghosts K.Denot) where
  -- the type `SmallMap<K, V>`, whose value is the model
  abbrev pub W : RattleType
  W = C.the_row K V g

  -- the fields of a `SmallMap<K, V>`
  abbrev pub D : Type 0
  D = Inside K.Denot V.Denot

  -- the fields d have the model v and meet the invariant
  abbrev pub Known : W.Denot → D → Type 0
  Known v d = (C.the_view K V g d ≡ v) × C.the_invariant K V g d

  -- the type of the list of entries, `VecMap<K, V>`
  abbrev pub CP : RattleType
  CP = part.the_row K V

  abbrev member : RattleType → Member
  member R = record { row = R; ty = lone R.mir }

  -- the field behind the list of entries, which is the hash index
  abbrev left : List Member
  left = member index.the_row ∷ []

  -- the offset of the list of entries in the struct
  abbrev pub eP : ℕ
  eP = place (member CP) left (I.the_type K V g).name

  module _ {M : Type 1} {𝓤 : Ura M} (𝓛 : Logic 𝓤) (b o : ℕ) where
    -- the other fields in memory, and the way back to the struct
    abbrev pub Rest : D → SProp 𝓤
    Rest d = Others (member CP) left (I.the_type K V g).name 𝓛 b o ((I.the_type K V g).to d)

    -- the list of entries in memory, and the rest
    abbrev pub Cuts : (v : W.Denot) → ((d : D) × Known v d) → SProp 𝓤
    Cuts v d = sep 𝓤 (sem 𝓛 (part_at CP full_share d.0.entries b (o + eP))) (Rest d.0)

    -- takes the struct in memory apart
    pub cut : Laws K → Laws V → (v : W.Denot) → ent 𝓤 (sem 𝓛 (part_at W full_share v b o)) (ex 𝓤 (Cuts v))
    unfolding part_of
    cut LK LV v =
        qed 𝓛 (‵ (part_at W full_share v b o) ∷ []) ∵ use1 𝓛 (some (λ (d : (d : D) × Known v d). ‵ (part_at (I.the_row K V g) full_share d.0 b o))) (plain_out W (I.the_row K V g) (T.the_opens K V g) 𝓛 full_share v b o) $ pick ! (λ d.
        use1 𝓛 (raw (Cuts v d)) (first_out (member CP) left (I.the_type K V g).name 𝓛 b o ((I.the_type K V g).to d.0) (lawfuls 𝓛 (I.the_type K V g).parts (IL.the_loose K V g LK LV))) $ show ! (Cuts v) d $ done !)

    -- puts the struct together again
    pub shut : (v : W.Denot) (d' : D) → Known v d' → ent 𝓤 (sep 𝓤 (sem 𝓛 (part_at CP full_share d'.entries b (o + eP))) (Rest d')) (sem 𝓛 (part_at W full_share v b o))
    unfolding part_of
    shut v d' k =
        qed 𝓛 (‵ (part_at CP full_share d'.entries b (o + eP)) ∷ raw (Rest d') ∷ []) ∵ use2 𝓛 (‵ (part_at (I.the_row K V g) full_share d' b o)) (first_in (member CP) left (I.the_type K V g).name 𝓛 b o ((I.the_type K V g).to d')) $
        by ! (Plain-in W (I.the_row K V g) (T.the_opens K V g) 𝓛 full_share v d' (view_made (I.the_row K V g) W.Denot W.coded (C.the_view K V g) (C.the_invariant K V g) 𝓛 v d' k) b o)
