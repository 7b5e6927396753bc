-- A `ReadyTable` in memory consists of its slots, its tags and the other fields, for any slots that satisfy the invariant.
-- Assumes `Logic`.
use Rattle.starlark_columns.proofs.LogicNames.{◌≡◌, ℕ, ◌+◌, List, [], ◌∷◌, Ura, full_share, SProp, ent, sep, ex, size, align, up, ‵, raw, ◌⊛◌, some, ◌$◌, ◌∵◌, !, qed, by, move, use1, use2, split, split3, join, pick, show, fsplit, fjoin, done, Logic, sem, usize, u64, RattleType, part_at, part_of, lone, plain_out, Plain-in, view_made, Laws, lawfuls, Member, parts_at, PartsBack}
use Rattle.starlark_columns.proofs.ProofSteps.{place, members, first_out, first_in}
use Rattle.starlark_columns.specs.contracts.column.Column.{the_row as column_row}
use Rattle.starlark_table.specs.Lend.{Member as MemberRow, Tags}
use Rattle.starlark_table.specs.declared.kept_hash.KeptHash as KeptHash
use Rattle.starlark_table.specs.declared.ready_table.ReadyTable.TheInside.{Inside}
use Rattle.starlark_table.specs.contracts.ready_table.ReadyTable as outer
use Rattle.starlark_table.specs.contracts.ready_table.ReadyTable.TheInside as inner
use Rattle.starlark_table.proofs.ready_table.ReadyTable.TheLaws as outer_laws
use Rattle.starlark_table.proofs.ready_table.ReadyTable.TheInside.TheLaws as inner_laws

abbrev member : RattleType → Member
member R = record { row = R; ty = lone R.mir }

-- the fields after slots and tags: the number of members, and the overflow filter
abbrev other_fields : List Member
other_fields = member usize ∷ member u64 ∷ []

-- K is the type of the items, and H that of the stored hashes
module _ (K H : RattleType) (G : KeptHash.Ghosts H.Denot) where
  -- the type of the table
  abbrev pub Whole : RattleType
  Whole = outer.the_row K H G

  -- the private fields of the table
  abbrev pub Fields : Type 0
  Fields = Inside K.Denot H.Denot

  -- the fields satisfy the invariant and are seen as v
  abbrev pub AreFieldsOf : Whole.Denot → Fields → Type 0
  AreFieldsOf v d = (outer.the_view K H G d ≡ v) × outer.the_invariant K H G d

  -- the type of the slots
  abbrev pub SlotsColumn : RattleType
  SlotsColumn = column_row (MemberRow K H G)

  -- where the slots begin in the memory of the table
  abbrev pub slots_offset : ℕ
  slots_offset = place (member SlotsColumn) (member Tags ∷ other_fields) (inner.the_type K H G).name

  -- where the tags begin in the memory of the table
  abbrev pub tags_offset : ℕ
  tags_offset = up (align (lone Tags.mir)) (slots_offset + size (lone SlotsColumn.mir))

  module _ {M : Type 1} {𝓤 : Ura M} (𝓛 : Logic 𝓤) (b o : ℕ) where
    -- what makes the fields a table again
    abbrev Closing : SProp 𝓤
    Closing = PartsBack 𝓛 full_share (inner.the_type K H G).name (members (member SlotsColumn) (member Tags ∷ other_fields) (inner.the_type K H G).name) b o

    -- the other fields, and what makes all fields a table again
    abbrev pub Rest : Fields → SProp 𝓤
    Rest d = sep 𝓤 (sem 𝓛 (parts_at full_share other_fields (tags_offset + size (lone Tags.mir)) ((inner.the_type K H G).to d).1.1 b o)) Closing

    -- the slots, the tags, and the rest
    abbrev pub Parts : (v : Whole.Denot) → ((d : Fields) × AreFieldsOf v d) → SProp 𝓤
    Parts v d = sep 𝓤 (sem 𝓛 (part_at SlotsColumn full_share d.0.slots b (o + slots_offset))) (sep 𝓤 (sem 𝓛 (part_at Tags full_share d.0.tags b (o + tags_offset))) (Rest d.0))

    -- a table in memory is its parts, for fields that are seen as the table
    pub take_apart : Laws K → Laws H → (v : Whole.Denot) → ent 𝓤 (sem 𝓛 (part_at Whole full_share v b o)) (ex 𝓤 (Parts v))
    unfolding part_of
    take_apart LK LH v =
        qed 𝓛 (‵ (part_at Whole full_share v b o) ∷ []) ∵ use1 𝓛 (some (λ (d : (d : Fields) × AreFieldsOf v d). ‵ (part_at (inner.the_row K H G) full_share d.0 b o))) (plain_out Whole (inner.the_row K H G) (outer_laws.the_opens K H G) 𝓛 full_share v b o) $ pick ! (λ d.
        use1 𝓛 (‵ (part_at SlotsColumn full_share d.0.slots b (o + slots_offset)) ⊛ ‵ (parts_at full_share (member Tags ∷ other_fields) (slots_offset + size (lone SlotsColumn.mir)) ((inner.the_type K H G).to d.0).1 b o) ⊛ raw Closing)
        (first_out (member SlotsColumn) (member Tags ∷ other_fields) (inner.the_type K H G).name 𝓛 b o ((inner.the_type K H G).to d.0) (lawfuls 𝓛 (inner.the_type K H G).parts (inner_laws.the_loose K H G LK LH))) $
        split3 ! $ move ! (1 ∷ []) $ fsplit ! $ move ! (2 ∷ 0 ∷ 1 ∷ []) $ show ! (Parts v) d $ done !)

    -- the parts, for any fields that are seen as v, are a table in memory
    pub put_together : (v : Whole.Denot) (d' : Fields) → AreFieldsOf v d' → ent 𝓤 (sep 𝓤 (sep 𝓤 (sem 𝓛 (part_at SlotsColumn full_share d'.slots b (o + slots_offset))) (sem 𝓛 (part_at Tags full_share d'.tags b (o + tags_offset)))) (Rest d')) (sem 𝓛 (part_at Whole full_share v b o))
    unfolding part_of
    put_together v d' k =
        qed 𝓛 ((‵ (part_at SlotsColumn full_share d'.slots b (o + slots_offset)) ⊛ ‵ (part_at Tags full_share d'.tags b (o + tags_offset))) ∷ (‵ (parts_at full_share other_fields (tags_offset + size (lone Tags.mir)) ((inner.the_type K H G).to d').1.1 b o) ⊛ raw Closing) ∷ []) ∵
        split ! $ move ! (2 ∷ []) $ split ! $ move ! (3 ∷ 0 ∷ []) $ fjoin ! $ join ! $ move ! (1 ∷ 0 ∷ []) $
        use2 𝓛 (‵ (part_at (inner.the_row K H G) full_share d' b o)) (first_in (member SlotsColumn) (member Tags ∷ other_fields) (inner.the_type K H G).name 𝓛 b o ((inner.the_type K H G).to d')) $
        by ! (Plain-in Whole (inner.the_row K H G) (outer_laws.the_opens K H G) 𝓛 full_share v d' (view_made (inner.the_row K H G) Whole.Denot Whole.coded (outer.the_view K H G) (outer.the_invariant K H G) 𝓛 v d' k) b o)
