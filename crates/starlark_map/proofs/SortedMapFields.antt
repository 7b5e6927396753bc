-- A `SortedMap` in memory consists of its ordered map, for any map whose keys ascend. Assumes `Logic`.
use Rattle.starlark_columns.proofs.LogicNames.{◌≡◌, ℕ, ◌+◌, [], ◌∷◌, Ura, full_share, SProp, ent, sep, ex, ‵, raw, some, ◌$◌, ◌∵◌, !, qed, by, use1, use2, pick, show, done, Logic, sem, RattleType, part_at, part_of, lone, plain_out, Plain-in, view_made, Laws, lawfuls, Member}
use Rattle.starlark_columns.proofs.ProofSteps.{place, Others, first_out, first_in}
use Rattle.std.specs.declared.cmp.Ord as Ord
use Rattle.std.specs.declared.cmp.PartialEq as PartialEq
use Rattle.std.specs.declared.cmp.PartialOrd as PartialOrd
use Rattle.std.specs.declared.hash.Hash as Hash
use Rattle.starlark_sets.specs.contracts.ordered_map.OrderedMap as ordered
use Rattle.starlark_map.specs.declared.sorted_map.SortedMap.TheInside.{Inside}
pub use Rattle.starlark_map.specs.contracts.sorted_map.SortedMap as outer
use Rattle.starlark_map.specs.contracts.sorted_map.SortedMap.TheInside as inner
use Rattle.starlark_map.proofs.sorted_map.SortedMap.TheLaws as outer_laws
use Rattle.starlark_map.proofs.sorted_map.SortedMap.TheInside.TheLaws as inner_laws

-- K and V are the types of keys and values
module _ (K V : RattleType) (N : Ord.Ghosts K.Denot) (P : PartialEq.Ghosts K.Denot) (L : PartialOrd.Ghosts K.Denot) (G : Hash.Ghosts K.Denot) where
  -- the type of the sorted map
  abbrev pub Whole : RattleType
  Whole = outer.the_row K V N P L G

  -- the private field of the sorted map
  abbrev pub Fields : Type 0
  Fields = Inside K.Denot V.Denot

  -- the field satisfies the invariant and is seen as v
  abbrev pub AreFieldsOf : Whole.Denot → Fields → Type 0
  AreFieldsOf v d = (outer.the_view K V N P L G d ≡ v) × outer.the_invariant K V N P L G d

  -- the type of the ordered map
  abbrev pub MapRow : RattleType
  MapRow = ordered.the_row K V P

  abbrev map_member : Member
  map_member = record { row = MapRow; ty = lone MapRow.mir }

  -- where the ordered map begins in the memory of the sorted map
  abbrev pub map_offset : ℕ
  map_offset = place map_member [] (inner.the_type K V N P L G).name

  module _ {M : Type 1} {𝓤 : Ura M} (𝓛 : Logic 𝓤) (b o : ℕ) where
    -- what makes the field a sorted map again
    abbrev pub Rest : Fields → SProp 𝓤
    Rest d = Others map_member [] (inner.the_type K V N P L G).name 𝓛 b o ((inner.the_type K V N P L G).to d)

    -- the ordered map and the rest
    abbrev pub Parts : (v : Whole.Denot) → ((d : Fields) × AreFieldsOf v d) → SProp 𝓤
    Parts v d = sep 𝓤 (sem 𝓛 (part_at MapRow full_share d.0.map b (o + map_offset))) (Rest d.0)

    -- a sorted map in memory is its parts, for a field that is seen as the sorted map
    pub take_apart : Laws K → Laws V → (v : Whole.Denot) → ent 𝓤 (sem 𝓛 (part_at Whole full_share v b o)) (ex 𝓤 (Parts v))
    unfolding part_of
    take_apart LK LV v =
        qed 𝓛 (‵ (part_at Whole full_share v b o) ∷ []) ∵ use1 𝓛 (some (λ (d : (d : Fields) × AreFieldsOf v d). ‵ (part_at (inner.the_row K V N P L G) full_share d.0 b o))) (plain_out Whole (inner.the_row K V N P L G) (outer_laws.the_opens K V N P L G) 𝓛 full_share v b o) $ pick ! (λ d.
        use1 𝓛 (raw (Parts v d)) (first_out map_member [] (inner.the_type K V N P L G).name 𝓛 b o ((inner.the_type K V N P L G).to d.0) (lawfuls 𝓛 (inner.the_type K V N P L G).parts (inner_laws.the_loose K V N P L G LK LV))) $ show ! (Parts v) d $ done !)

    -- the parts, for any field that is seen as v, are a sorted map in memory
    pub put_together : (v : Whole.Denot) (d' : Fields) → AreFieldsOf v d' → ent 𝓤 (sep 𝓤 (sem 𝓛 (part_at MapRow full_share d'.map b (o + map_offset))) (Rest d')) (sem 𝓛 (part_at Whole full_share v b o))
    unfolding part_of
    put_together v d' k =
        qed 𝓛 (‵ (part_at MapRow full_share d'.map b (o + map_offset)) ∷ raw (Rest d') ∷ []) ∵ use2 𝓛 (‵ (part_at (inner.the_row K V N P L G) full_share d' b o)) (first_in map_member [] (inner.the_type K V N P L G).name 𝓛 b o ((inner.the_type K V N P L G).to d')) $
        by ! (Plain-in Whole (inner.the_row K V N P L G) (outer_laws.the_opens K V N P L G) 𝓛 full_share v d' (view_made (inner.the_row K V N P L G) Whole.Denot Whole.coded (outer.the_view K V N P L G) (outer.the_invariant K V N P L G) 𝓛 v d' k) b o)
