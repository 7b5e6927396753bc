-- An `UnorderedMap` in memory consists of its table and the other fields, for any table that satisfies the invariant, such
-- as one whose values were written. Assumes `Logic`.
use Rattle.starlark_columns.proofs.LogicNames.{◌≡◌, ℕ, ◌+◌, List, [], ◌∷◌, Ura, full_share, SProp, ent, sep, ex, ‵, raw, some, ◌$◌, ◌∵◌, !, qed, by, use1, use2, pick, show, done, Logic, sem, RattleType, part_at, part_of, lone, plain_out, Plain-in, view_made, Laws, lawfuls, Member, Tuple}
use Rattle.starlark_columns.proofs.ProofSteps.{place, Others, first_out, first_in}
use Rattle.std.specs.contracts.alloc.Global as Global
use Rattle.std.specs.declared.cmp.PartialEq as PartialEq
use Rattle.std.specs.declared.hash.Hash as Hash
use Rattle.starlark_hash.specs.contracts.hash_value.StarlarkHashValue.{the_row as hash_row}
use Rattle.starlark_table.specs.contracts.kept_hash.StarlarkHashValueKeptHash.TheImpl.{ghosts}
use Rattle.starlark_table.specs.contracts.ready_table.ReadyTable.{the_row as table_row}
use Rattle.starlark_unordered.specs.declared.unordered_map.UnorderedMap.TheInside.{Inside}
pub use Rattle.starlark_unordered.specs.contracts.unordered_map.UnorderedMap as outer
use Rattle.starlark_unordered.specs.contracts.unordered_map.UnorderedMap.TheInside as inner
use Rattle.starlark_unordered.proofs.unordered_map.UnorderedMap.TheLaws as outer_laws
use Rattle.starlark_unordered.proofs.unordered_map.UnorderedMap.TheInside.TheLaws as inner_laws
use Rattle.starlark_hash.proofs.Common.{arith, Option, refl}
use Rattle.starlark_table.specs.Table.{filled}
use Rattle.starlark_table.specs.Lend.{with_values_of}
use Rattle.starlark_unordered.specs.Sound.{keyed}

-- slots whose values were written keep their hashes and keys, and writing the same values again changes nothing
pub written : {K V : Type 0} (xs ws : List (Option (ℕ × (K × V)))) → (keyed (filled (with_values_of xs ws)) ≡ keyed (filled xs)) × (with_values_of xs (with_values_of xs ws) ≡ with_values_of xs ws)
written [] ws = (refl, refl)
written (x ∷ xs) [] = grind (arith, written xs [])
written (x ∷ xs) (w ∷ ws) = grind (arith, written xs ws)

-- K and V are the types of keys and values
module _ (K V : RattleType) (g : PartialEq.Ghosts K.Denot) (h : Hash.Ghosts K.Denot) where
  -- the type of the map
  abbrev pub Whole : RattleType
  Whole = outer.the_row K V g h

  -- the private fields of the map
  abbrev pub Fields : Type 0
  Fields = Inside K.Denot V.Denot

  -- the fields satisfy the invariant and are seen as v
  abbrev pub AreFieldsOf : Whole.Denot → Fields → Type 0
  AreFieldsOf v d = (outer.the_view K V g h d ≡ v) × outer.the_invariant K V g h d

  -- the type of the table of pairs
  abbrev pub TableRow : RattleType
  TableRow = table_row (Tuple (K ∷ V ∷ [])) hash_row ghosts

  abbrev member : RattleType → Member
  member R = record { row = R; ty = lone R.mir }

  -- the field after the table: the allocator
  abbrev other_fields : List Member
  other_fields = member Global.the_field.row ∷ []

  -- where the table begins in the memory of the map
  abbrev pub table_offset : ℕ
  table_offset = place (member TableRow) other_fields (inner.the_type K V g h).name

  module _ {M : Type 1} {𝓤 : Ura M} (𝓛 : Logic 𝓤) (b o : ℕ) where
    -- the other fields, and what makes all fields a map again
    abbrev pub Rest : Fields → SProp 𝓤
    Rest d = Others (member TableRow) other_fields (inner.the_type K V g h).name 𝓛 b o ((inner.the_type K V g h).to d)

    -- the table and the rest
    abbrev pub Parts : (v : Whole.Denot) → ((d : Fields) × AreFieldsOf v d) → SProp 𝓤
    Parts v d = sep 𝓤 (sem 𝓛 (part_at TableRow full_share d.0.table b (o + table_offset))) (Rest d.0)

    -- a map in memory is its parts, for fields that are seen as the map
    pub take_apart : Laws K → Laws V → (v : Whole.Denot) → ent 𝓤 (sem 𝓛 (part_at Whole full_share v b o)) (ex 𝓤 (Parts v))
    unfolding part_of
    take_apart LK LV v =
        qed 𝓛 (‵ (part_at Whole full_share v b o) ∷ []) ∵ use1 𝓛 (some (λ (d : (d : Fields) × AreFieldsOf v d). ‵ (part_at (inner.the_row K V g h) full_share d.0 b o))) (plain_out Whole (inner.the_row K V g h) (outer_laws.the_opens K V g h) 𝓛 full_share v b o) $ pick ! (λ d.
        use1 𝓛 (raw (Parts v d)) (first_out (member TableRow) other_fields (inner.the_type K V g h).name 𝓛 b o ((inner.the_type K V g h).to d.0) (lawfuls 𝓛 (inner.the_type K V g h).parts (inner_laws.the_loose K V g h LK LV))) $ show ! (Parts v) d $ done !)

    -- the parts, for any fields that are seen as v, are a map in memory
    pub put_together : (v : Whole.Denot) (d' : Fields) → AreFieldsOf v d' → ent 𝓤 (sep 𝓤 (sem 𝓛 (part_at TableRow full_share d'.table b (o + table_offset))) (Rest d')) (sem 𝓛 (part_at Whole full_share v b o))
    unfolding part_of
    put_together v d' k =
        qed 𝓛 (‵ (part_at TableRow full_share d'.table b (o + table_offset)) ∷ raw (Rest d') ∷ []) ∵ use2 𝓛 (‵ (part_at (inner.the_row K V g h) full_share d' b o)) (first_in (member TableRow) other_fields (inner.the_type K V g h).name 𝓛 b o ((inner.the_type K V g h).to d')) $
        by ! (Plain-in Whole (inner.the_row K V g h) (outer_laws.the_opens K V g h) 𝓛 full_share v d' (view_made (inner.the_row K V g h) Whole.Denot Whole.coded (outer.the_view K V g h) (outer.the_invariant K V g h) 𝓛 v d' k) b o)
