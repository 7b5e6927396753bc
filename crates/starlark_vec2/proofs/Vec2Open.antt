-- A `Vec2` in memory as its two columns and the other fields, and back, for any columns of which the invariant holds.
-- Assumes `Logic`.
use Rattle.starlark_columns.proofs.LogicNames.{length, slice_set, length-set, ◌≡◌, refl, ℕ, zero, ◌+◌, ◌<◌, ◌^◌, List, [], ◌∷◌, Ura, full_share, w64, Val, vint, fsep, ent, sep, size, align, up, ‵, raw, ◌⊛◌, some, ◌$◌, ◌∵◌, !, qed, by, move, use1, use2, split, pick, show, fsplit, fsplit3, fjoin, fpick, fpack, rewrite, done, Logic, sem, RattleType, shows, part_at, part_of, cell_at, lone, plain_out, Plain-in, view_made, Laws, field, usize-field, peeks, Ptr, sym, ap, subst, ◌∙◌, lawfuls, Member, parts_at, PartsBack, Struct-parts, ghosts, Item, mean, vstruct, vcons, of_list, ◌++◌, Is, split3, fat, join}
use Rattle.std.specs.contracts.alloc.Global as heap
use denote.RawPtr.{InBlock, block_ptr, block_of, count_of}
use Rattle.starlark_columns.specs.Block.{IsBehind}
use Rattle.starlark_columns.specs.Pair.{behind as starts}
use Rattle.starlark_columns.specs.contracts.block as block
use Rattle.starlark_columns.proofs.Addresses.{words, spot_told}
use Rattle.std.specs.declared.option.Option.TheVariants.{Some}
use Rattle.starlark_columns.specs.Lend.{with_cells}
use Rattle.starlark_vec2.specs.Columns.{column}
use Rattle.starlark_vec2.specs.Lend.{with_pair}
use Rattle.starlark_vec2.proofs.TwoColumns.{relaid, both_set, both_end}
use Rattle.starlark_vec2.specs.declared.vec2.Vec2.TheInside.{Inside}
use Rattle.starlark_vec2.specs.contracts.vec2.Vec2 as C
use Rattle.starlark_vec2.specs.contracts.vec2.Vec2.TheInside as I
use Rattle.starlark_vec2.proofs.vec2.Vec2 as its
use Rattle.starlark_columns.proofs.LoneValue.{lone_value}
use Rattle.starlark_columns.proofs.PairParts.{part}
use Rattle.starlark_columns.proofs.ProofSteps.{first_in}
use Rattle.starlark_columns.proofs.row.Row.TheLaws as R

module _ (A B : RattleType) where
  -- the type `Vec2<A, B>`, whose value is the model
  abbrev pub V : RattleType
  V = C.the_row A B

  -- the fields of a `Vec2<A, B>`
  abbrev pub D : Type 0
  D = Inside A.Denot B.Denot

  -- the fields d have the model v and meet the invariant
  abbrev pub Known : V.Denot → D → Type 0
  Known v d = (C.the_view A B d ≡ v) × C.the_invariant A B d

  -- the fields behind both columns
  abbrev left : List Member
  left = part usize-field.row ∷ part (block.Spot.the_field B).row ∷ part (field heap.the_type).row ∷ part (block.PairClaim.the_row B A heap.the_row ghosts) ∷ []

  -- all fields
  abbrev ms : List Member
  ms = part (column A) ∷ part (column B) ∷ left

  -- the offset of the column of first parts in the struct
  abbrev pub firsts_offset : ℕ
  firsts_offset = up (align (lone (column A).mir)) zero

  -- the offset of the column of second parts in the struct
  abbrev pub seconds_offset : ℕ
  seconds_offset = up (align (lone (column B).mir)) (firsts_offset + size (lone (column A).mir))

  -- the struct with other items at one index
  abbrev pub written : D → ℕ → A.Denot → B.Denot → D
  written d i x y = record d { firsts = with_cells d.firsts (slice_set d.firsts.cells i (Some x)); seconds = with_cells d.seconds (slice_set d.seconds.cells i (Some y)) }

  -- writing one pair is writing its parts in both columns, and keeps the invariant
  pub written_known : (v : V.Denot) (d : D) (i : ℕ) (x : A.Denot) (y : B.Denot) → i < length v.pairs → Known v d → Known (with_pair v i (x, y)) (written d i x y)
  written_known v d i x y lt k = let cs = d.firsts.cells in let ds = d.seconds.cells in
      (both_end cs ds d.len k.1.0 v k.0 i lt x y, relaid d k.1 (slice_set cs i (Some x)) (slice_set ds i (Some y)) (both_set cs ds d.len k.1.0 v k.0 i lt x y) (length-set cs i (Some x)) (length-set ds i (Some y)))

  -- the length and the count fit in 64 bits, and the block's right determines where the columns are
  abbrev pub Told : D → Type 0
  Told d = (d.len < 2 ^ 64) × (d.spot.count < 2 ^ 64) × ◌≡◌ {A = Ptr × Ptr} (d.block.firsts, d.block.seconds) (block_ptr (block_of d.block.firsts) (count_of d.block.firsts), starts B A d.block.count d.block.firsts)

  -- the first parts are at the address that is computed from the spot of the block
  pub at_behind : (v : V.Denot) (d : D) → Known v d → Told d → IsBehind B A d.spot d.firsts.at
  at_behind v d k told = (
    subst InBlock (sym (k.1.2.1 ∙ ap (λ (z : Ptr × Ptr). z.0) told.2)) tt,
    sym k.1.1.1 ∙ ap (λ (z : Ptr × Ptr). z.1) told.2 ∙ (λ i. starts B A (sym k.1.2.0 i) (sym k.1.2.1 i)),
  )

  -- the second parts are at the address of the block
  pub at_front : (v : V.Denot) (d : D) → Known v d → d.spot.address.at ≡ d.seconds.at
  at_front v d k = k.1.2.1 ∙ k.1.1.0

  -- the machine value of the fields, in which the length and the spot can be read
  abbrev pub fields_value : D → Val × Val × List Val → Val
  fields_value d us = vstruct (vcons us.0 (vcons us.1 (vcons (vint w64 d.len) (vcons (words d.spot.address.at d.spot.count) (of_list us.2)))))

  module _ (LA : Laws A) (LB : Laws B) {M : Type 1} {𝓤 : Ura M} (𝓛 : Logic 𝓤) where
    -- the machine value of the fields is `fields_value`, and the fields are as `Told` says
    told : (d : D) (vs : List Val) → Is (I.the_row A B) d vs → ((us : Val × Val × List Val) × (vs ≡ fields_value d us ∷ [])) × Told d
    told d vs is =
        let us = is.0 in let at = is.1.1 in let x = lone_value 𝓛 (column A) (R.the_row_laws A LA) d.firsts us.0 at.0 in let y = lone_value 𝓛 (column B) (R.the_row_laws B LB) d.seconds us.1.0 at.1.0 in
        let len = at.1.1.0 in let s = spot_told B d.spot us.1.1.1.0 at.1.1.1.0 in let rest = us.1.1.1.1.0 ++ (us.1.1.1.1.1.0 ++ []) in
        (((x.0, y.0, rest), is.1.0 ∙ (λ i. vstruct (of_list (x.1 i ++ (y.1 i ++ (len.0 i ++ (s.0 i ++ rest))))) ∷ [])), (len.1, s.1, at.1.1.1.1.1.0.1.0))

    module _ (b o : ℕ) where
      -- the fields of a list, their machine values, and what is known of them
      abbrev pub Fields : V.Denot → Type 0
      Fields v = (d : D) × (Val × Val × List Val) × Known v d × Told d

      -- the fields in memory, as one machine value
      abbrev pub Held : (v : V.Denot) → Fields v → Item 𝓤
      Held v x = let w = fields_value x.0 x.1 in ‵ (fat full_share (lone (I.the_row A B).mir) b o w) ⊛ ‵ ((I.the_row A B).own_val x.0 (w ∷ []))

      -- a list in memory is its fields in memory, as one machine value
      pub held : (v : V.Denot) → ent 𝓤 (sem 𝓛 (part_at V full_share v b o)) (mean 𝓛 (some (Held v)))
      unfolding part_of
      held v =
          qed 𝓛 (‵ (part_at V full_share v b o) ∷ []) ∵ use1 𝓛 (some (λ (d : (d : D) × Known v d). ‵ (part_at (I.the_row A B) full_share d.0 b o))) (plain_out V (I.the_row A B) (its.TheLaws.the_opens A B) 𝓛 full_share v b o) $ pick ! (λ d.
          fpick ! (λ vs. fsplit ! $ move ! (1 ∷ []) $ peeks ! (I.the_row A B) _ (shows 𝓛 (I.the_row A B)) d.0 vs (λ is. let known = told d.0 vs is in let word = known.0.1 in
          rewrite ! 0 (λ (us : List Val). ‵ ((I.the_row A B).own_val d.0 us)) word refl $ rewrite ! 1 (λ (us : List Val). ‵ (cell_at full_share (I.the_row A B).mir us b o)) word refl $ move ! (1 ∷ []) $
          use1 𝓛 (‵ (fat full_share (lone (I.the_row A B).mir) b o (fields_value d.0 known.0.0))) (𝓛.laws.raw_at full_share (lone (I.the_row A B).mir) b o (fields_value d.0 known.0.0)) $
          show ! (λ (x : Fields v). mean 𝓛 (Held v x)) (d.0, known.0.0, d.1, known.1) $ done !)))

      -- the other fields in memory, and the way back from all fields to the struct
      abbrev pub Rest : D → Item 𝓤
      Rest d = ‵ (parts_at full_share left (seconds_offset + size (lone (column B).mir)) ((I.the_type A B).to d).1.1 b o) ⊛ raw (PartsBack 𝓛 full_share (I.the_type A B).name ms b o)

      -- both columns in memory, and the rest
      abbrev pub Cuts : D → Item 𝓤
      Cuts d = ‵ (part_at (column A) full_share d.firsts b (o + firsts_offset)) ⊛ ‵ (part_at (column B) full_share d.seconds b (o + seconds_offset)) ⊛ Rest d

      -- takes the struct in memory apart
      pub cut : (d : D) (w : Val) → ent 𝓤 (sep 𝓤 (sem 𝓛 (fat full_share (lone (I.the_row A B).mir) b o w)) (sem 𝓛 ((I.the_row A B).own_val d (w ∷ [])))) (mean 𝓛 (Cuts d))
      unfolding part_of
      cut d w =
          qed 𝓛 (‵ (fat full_share (lone (I.the_row A B).mir) b o w) ∷ ‵ ((I.the_row A B).own_val d (w ∷ [])) ∷ []) ∵
          use1 𝓛 (‵ (cell_at full_share (I.the_row A B).mir (w ∷ []) b o)) (𝓛.laws.at_raw full_share (lone (I.the_row A B).mir) b o w) $
          fjoin ! $ fpack ! (List Val) (λ vs. fsep (cell_at full_share (I.the_row A B).mir vs b o) ((I.the_row A B).own_val d vs)) (w ∷ []) $
          use1 𝓛 (‵ (parts_at full_share ms zero ((I.the_type A B).to d) b o) ⊛ raw (PartsBack 𝓛 full_share (I.the_type A B).name ms b o))
          (Struct-parts 𝓛 full_share (I.the_type A B).name ms (lawfuls 𝓛 (I.the_type A B).parts (its.TheInside.TheLaws.the_loose A B LA LB)) ((I.the_type A B).to d) b o) $ split ! $ fsplit3 ! $ done !

      -- puts the struct together again
      pub shut : (v : V.Denot) (d : D) → Known v d → ent 𝓤 (mean 𝓛 (Cuts d)) (sem 𝓛 (part_at V full_share v b o))
      unfolding part_of
      shut v d k =
          qed 𝓛 (Cuts d ∷ []) ∵ split3 ! $ move ! (2 ∷ []) $ split ! $ move ! (3 ∷ 0 ∷ []) $ fjoin ! $ move ! (0 ∷ 1 ∷ []) $ join ! $ move ! (1 ∷ 0 ∷ []) $
          use2 𝓛 (‵ (part_at (I.the_row A B) full_share d b o)) (first_in (part (column A)) (part (column B) ∷ left) (I.the_type A B).name 𝓛 b o ((I.the_type A B).to d)) $
          by ! (Plain-in V (I.the_row A B) (its.TheLaws.the_opens A B) 𝓛 full_share v d (view_made (I.the_row A B) V.Denot V.coded (C.the_view A B) (C.the_invariant A B) 𝓛 v d k) b o)
