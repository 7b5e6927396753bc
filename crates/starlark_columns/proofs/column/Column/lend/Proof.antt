-- `lend` lends the cells. The borrow of the column is opened and never closed by itself: what the loan of the cells
-- ends as closes it. Assumes `Logic`.
use Rattle.starlark_columns.proofs.LogicNames.{◌≡◌, ℕ, ◌+◌, ◌*◌, ◌<◌, ◌^◌, List, [], ◌∷◌, length, refl, sym, ap, subst, ◌∙◌, zero-add, zero-mul, GName, Lft, Share, ftrue, flft, fobs, fbor, SProp, sep, never, id⊢, ◌⊑◌, fact, tables, inst_fn, a_type, named, dcons, dnil, Val, vptr, vstruct, vcons, vnil, alloc_all, pass_all, free_all, look_at, get, through, sets, ‵, raw, ◌⊛◌, some, later, ◌$◌, ◌∵◌, !, qed, by, move, keep, use0, use1, split, split3, join, pick, rewrite, fsplit, fsplit3, fjoin, flt_i, flt_l, group, await, sem, open_ref, takes_part, Body, whole, sub, agg, look_in, stop, fld, load, of_opd, no_more, and_then, returns, enter, follows, mem, param, bounded, RattleType, owns, Ptr, block_ptr, in_block, in_a_block, MutBor, mut_vals, mut_Tells, makes_shadow, named_lft, types_at, shape, Struct, walk_of, proved, leaves, type_size, tells, spent, drops, drops_go, toks, El, R, zero, Ura, full_share, Fml, fsep, ent, ex, size, align, up, use2, show, fpick, fpack, done, Logic, usize, shows, Denots, part_at, part_of, cell_at, lone, plain_out, Plain-in, view_made, facts, lawfuls, Member, rows_of, parts_at, PartsBack, Struct-parts, ghosts, param_laws}
use Rattle.starlark_columns.proofs.RowValues.{cells_owned, row_owned, word, address_told, address_made, Marked, RowOf, ClaimOf, with_cells, shut as row_shut}
use Rattle.std.specs.contracts.alloc.Global as heap
use Rattle.starlark_columns.specs.contracts.block.Address as address
use Rattle.starlark_columns.specs.declared.column.Column.TheInside.{Inside}
use Rattle.starlark_columns.specs.contracts.column.Column as C
use Rattle.starlark_columns.proofs.PairParts.{part}
use Rattle.starlark_columns.proofs.ProofSteps.{first_in}
use Rattle.starlark_columns.proofs.column.Column as laws
use Rattle.starlark_columns.proofs.LentCells.{cells_itself, kept_cells, KeptCells, lent_cells, length-kept_cells}
use Rattle.starlark_columns.specs.contracts.loan.Loan as loan
use Rattle.starlark_columns.specs.contracts.column.Column.lend as contract
use Rattle.starlark_columns.proofs.column.Column.lend as routine

-- a column in memory as its address, its cells and the other fields, and back, for any cells of the same number
module _ (E : El) where
  abbrev ColumnOf : RattleType
  ColumnOf = C.the_row (R E)

  abbrev Known : ColumnOf.Denot → (Inside (R E).Denot) → Type 0
  Known v d = (C.the_view (R E) d ≡ v) × C.the_invariant (R E) d

  abbrev CA : RattleType
  CA = (address.the_field (R E)).row

  abbrev behind : List Member
  behind = part (ClaimOf (R E) heap.the_row ghosts) ∷ []

  abbrev ms : List Member
  ms = part CA ∷ part usize ∷ part (RowOf (R E)) ∷ behind

  -- the offsets of the fields in the struct
  abbrev address_offset : ℕ
  address_offset = up (align (lone CA.mir)) zero

  abbrev count_offset : ℕ
  count_offset = up (align (lone usize.mir)) (address_offset + size (lone CA.mir))

  abbrev row_offset : ℕ
  row_offset = up (align (lone (RowOf (R E)).mir)) (count_offset + size (lone usize.mir))

  abbrev to : (Inside (R E).Denot) → Denots (rows_of ms)
  to d = (C.TheInside.the_type (R E)).to d

  module _ {M : Type 1} {𝓤 : Ura M} (𝓛 : Logic 𝓤) (b o : ℕ) where
    abbrev Word : Ptr → Fml
    Word p = cell_at full_share CA.mir (word p ∷ []) b (o + address_offset)

    abbrev Back : SProp 𝓤
    Back = PartsBack 𝓛 full_share (C.TheInside.the_type (R E)).name ms b o

    -- all that the column owns except the word of the address and the cells
    abbrev Shell : (Inside (R E).Denot) → List Val → SProp 𝓤
    Shell d vs = sep 𝓤 (sem 𝓛 (part_at usize full_share d.count b (o + count_offset))) (sep 𝓤 (sem 𝓛 (fsep ((Marked (R E)).own_val (tt, tt) vs) (cell_at full_share (RowOf (R E)).mir vs b (o + row_offset)))) (sep 𝓤 (sem 𝓛 (parts_at full_share behind (row_offset + size (lone (RowOf (R E)).mir)) (to d).1.1.1 b o)) Back))

    abbrev Cuts : (v : ColumnOf.Denot) → ((d : (Inside (R E).Denot)) × Known v d) × List Val → SProp 𝓤
    Cuts v d = sep 𝓤 (sem 𝓛 (Word d.0.0.address.at)) (sep 𝓤 (sem 𝓛 (row_owned (R E) d.0.0.row.at d.0.0.row.cells)) (Shell d.0.0 d.1))

    cut : (v : ColumnOf.Denot) → ent 𝓤 (sem 𝓛 (part_at ColumnOf full_share v b o)) (ex 𝓤 (Cuts v))
    unfolding part_of
    cut v =
        qed 𝓛 (‵ (part_at ColumnOf full_share v b o) ∷ []) ∵ use1 𝓛 (some (λ (d : (d : (Inside (R E).Denot)) × Known v d). ‵ (part_at (C.TheInside.the_row (R E)) full_share d.0 b o))) (plain_out ColumnOf (C.TheInside.the_row (R E)) (laws.TheLaws.the_opens (R E)) 𝓛 full_share v b o) $ pick ! (λ d.
        use1 𝓛 (‵ (parts_at full_share ms zero (to d.0) b o) ⊛ raw Back) (Struct-parts 𝓛 full_share (C.TheInside.the_type (R E)).name ms (lawfuls 𝓛 (C.TheInside.the_type (R E)).parts (laws.TheInside.TheLaws.the_loose (R E) (param_laws 0 E.row E.laws))) (to d.0) b o) $ split ! $
        -- [the address; the count; the others; the way back]
        fsplit3 ! $ fpick ! (λ ws. fsplit ! $ move ! (1 ∷ []) $ facts ! CA _ (shows 𝓛 CA) (d.0.address.at, tt) ws (λ is. rewrite ! 0 (λ (us : List Val). ‵ (cell_at full_share CA.mir us b (o + address_offset))) (address_told (R E) d.0.address ws is) refl $
        move ! (2 ∷ []) $ fsplit ! $ fpick ! (λ vs. fsplit ! $ move ! (1 ∷ []) $ fsplit ! $ move ! (0 ∷ 2 ∷ []) $ fjoin ! $
        -- [the mark; the cells; what is behind; the address; the count; the way back]
        show ! (Cuts v) (d, vs) $ keep ! (3 ∷ 1 ∷ 4 ∷ 0 ∷ 2 ∷ 5 ∷ []) $ done !))))

    -- the column again, once its cells come back as they were written
    kept_shut : (kept : (R E).Denot → (R E).Denot → (R E).Denot) (v : ColumnOf.Denot) (d : (Inside (R E).Denot)) (vs : List Val) → Known v d → (ab ao : ℕ) → d.row.at ≡ block_ptr ab ao → length v * type_size (R E) < 2 ^ 63 → (ws : ColumnOf.Denot)
        → ent 𝓤 (sep 𝓤 (sem 𝓛 ((KeptCells (R E) kept v).own_at ws ab ao)) (sep 𝓤 (sem 𝓛 (Word d.address.at)) (Shell d vs))) (sem 𝓛 ((mem ColumnOf).own_at (kept_cells kept v ws) b o))
    unfolding part_of
    kept_shut kept v d vs k ab ao at few ws =
        let ds : ColumnOf.Denot = kept_cells kept v ws in let long : length ds ≡ length v = length-kept_cells kept v ws in let same : length v ≡ length d.row.cells = ap length (sym k.0) in
        let d' : (Inside (R E).Denot) = record d { row = with_cells d.row ds } in let known : Known ds d' = (refl, (k.1.0, long ∙ same ∙ k.1.1, k.1.2)) in
        qed 𝓛 (‵ ((KeptCells (R E) kept v).own_at ws ab ao) ∷ ‵ (Word d.address.at)
        ∷ (‵ (part_at usize full_share d.count b (o + count_offset)) ⊛ ‵ (fsep ((Marked (R E)).own_val (tt, tt) vs) (cell_at full_share (RowOf (R E)).mir vs b (o + row_offset))) ⊛ ‵ (parts_at full_share behind (row_offset + size (lone (RowOf (R E)).mir)) (to d).1.1.1 b o) ⊛ raw Back) ∷ []) ∵
        move ! (2 ∷ []) $ split3 ! $ move ! (2 ∷ []) $ split ! $
        -- [what is behind; the way back; the count; the mark; the cells; the address]
        move ! (4 ∷ 3 ∷ []) $ use2 𝓛 (‵ ((mem (RowOf (R E))).own_at d'.row b (o + row_offset))) (row_shut E 𝓛 d.row b (o + row_offset) vs ab ao at (subst (λ (n : ℕ). n * type_size (R E) < 2 ^ 63) same few) ds (long ∙ same)) $
        fjoin ! $ move ! (2 ∷ 0 ∷ []) $ fjoin ! $ join ! $ move ! (1 ∷ []) $ use0 𝓛 (‵ (CA.own_val (d.address.at, tt) (word d.address.at ∷ []))) (address_made (R E) 𝓛 d.address.at) $ move ! (1 ∷ 0 ∷ []) $ fjoin ! $
        fpack ! (List Val) (λ us. fsep (cell_at full_share CA.mir us b (o + address_offset)) (CA.own_val (d.address.at, tt) us)) (word d.address.at ∷ []) $
        use2 𝓛 (‵ (part_at (C.TheInside.the_row (R E)) full_share d' b o)) (first_in (part CA) (part usize ∷ part (RowOf (R E)) ∷ behind) (C.TheInside.the_type (R E)).name 𝓛 b o (to d')) $
        by ! (Plain-in ColumnOf (C.TheInside.the_row (R E)) (laws.TheLaws.the_opens (R E)) 𝓛 full_share ds d' (view_made (C.TheInside.the_row (R E)) ColumnOf.Denot ColumnOf.coded (C.the_view (R E)) (C.the_invariant (R E)) 𝓛 ds d' known) b o)

pub lend_spec : {M : Type 1} → routine.Statement.statement M
lend_spec 𝓤 𝓛 𝓜 𝓡 wired X P L LP g dict _ =
    let H = 𝓛.H in let 𝓣 = tables 𝓤 H 𝓜 𝓡 𝓡.env in let En = contract.ended X P g dict in let inst = bounded (a_type ∷ a_type ∷ []) (X, (P, tt)) (dcons dict dnil) in let fn = inst_fn inst routine.Code.function in
    let c = contract.clauses X P g dict 𝓛 𝓜.mem 𝓡.returns in let E : El = record { row = X; laws = L } in let K : RattleType = R E in let W : RattleType = ColumnOf E in let s : ℕ = type_size K in let hs = drops En in
    proved 𝓛 En hs c 𝓜 𝓡 (drops_go 𝓛 En (λ κs x f. refl, tt)) (contract.Key.name inst) fn (routine.Code.unfolded 𝓤 H 𝓜 𝓡 wired (X, (P, tt)) dict)
    (λ κs. (mut_vals, tt)) (λ κs. (mut_Tells (named 0) κs.0 W, tt)) (λ κs qs bounds a gh are.
    let κ : Lft = κs.0 in let q : Share = qs.0 in let self : MutBor W.Denot = a.0 in let γ : GName = self.ghost_name in let b : ℕ = self.ref_ptr.0 in let o : ℕ = self.ref_ptr.1 in let v : W.Denot = self.now in
    let y : (walk_of 𝓛 En hs c).Ghost = ((κs, qs, bounds, a, (vptr b o ∷ [], tt)), gh) in let Post : Val → SProp 𝓤 = (walk_of 𝓛 En hs c).post y in
    qed 𝓛 (((‵ (flft κ q) ⊛ raw (toks 𝓛 2 κs.1 qs.1)) ⊛ ‵ (owns (types_at En.signature.params κs) a y.0.4)) ∷ raw (fact 𝓤 (κs.1.0 ⊑ X.lives)) ∷ raw (fact 𝓤 (κs.1.1.0 ⊑ P.lives)) ∷ ‵ ftrue ∷ []) ∵
    keep ! (0 ∷ []) $ split ! $ split ! $ move ! (2 ∷ []) $ fsplit ! $ fsplit3 ! $ keep ! (1 ∷ 2 ∷ 4 ∷ 5 ∷ []) $
    -- [self's name and borrow; the token of κ; the others]
    enter ! _ _ _ _ _ $ alloc_all ! (λ l. pass_all ! refl ((tt, tt), tt) $ open_ref ! tt (mem W) {b = b} {o = o} $
    use1 𝓛 (some (λ (z : ((d : Inside K.Denot) × Known E v d) × List Val). raw (Cuts E 𝓛 b o v z))) (cut E 𝓛 b o v) $ pick ! (λ z.
    let d : Inside K.Denot = z.0.0 in let known = z.0.1 in let vs : List Val = z.1 in
    use1 𝓛 (‵ (Word E 𝓛 b o d.address.at) ⊛ ‵ (row_owned K d.row.at d.row.cells) ⊛ raw (Shell E 𝓛 b o d vs)) (id⊢ 𝓤 _) $ split3 ! $ move ! (1 ∷ []) $ fsplit ! $ flt_l ! (λ small.
    in_a_block ! d.row.at (λ p. in_block p (cells_owned K p d.row.cells)) (id⊢ 𝓤 (never 𝓤)) (λ ab ao at.
    -- [the cells; the address; the shell; the open borrow and its names; the others]
    let few : length v * s < 2 ^ 63 = subst (λ (l : W.Denot). length l * s < 2 ^ 63) known.0 small in let here : d.address.at ≡ block_ptr ab ao = sym known.1.0 ∙ at in let Rest : SProp 𝓤 = sep 𝓤 (sem 𝓛 (Word E 𝓛 b o d.address.at)) (Shell E 𝓛 b o d vs) in
    rewrite ! 1 (λ (p : Ptr). ‵ (Word E 𝓛 b o p)) here refl $
    sets ! (of_opd ! (load ! (through ! refl (fld ! refl (fld ! refl (stop !)))) (look_in ! 1 (sub ! 0 refl (whole !))))) refl (tt, tt) $
    sets ! (agg ! (no_more !)) refl (tt, tt) $ sets ! (agg ! (and_then ! (get ! refl) (and_then ! (get ! refl) (no_more !)))) refl (tt, (tt, (tt, tt))) $
    rewrite ! 1 (λ (p : Ptr). ‵ (Word E 𝓛 b o p)) (sym here) refl $
    rewrite ! 0 (λ (l : W.Denot). ‵ (cells_owned K (block_ptr ab ao) l)) (known.0 ∙ sym (cells_itself g.kept g.itself v)) refl $
    move ! (1 ∷ 2 ∷ []) $ join ! $ move ! (2 ∷ 3 ∷ 4 ∷ 1 ∷ 0 ∷ []) $ group ! 5 $
    use1 𝓛 (later (some (λ (δ : GName). ‵ (fobs δ (W.coded.code v)) ⊛ ‵ (fbor κ (Body (KeptCells K g.kept v) ab ao δ)) ⊛ ‵ (flft κ q) ⊛ ‵ (follows W W γ δ (kept_cells g.kept v)))))
    (takes_part 𝓛 (mem W) (KeptCells K g.kept v) (kept_cells g.kept v) κ q b o ab ao γ Rest (kept_shut E 𝓛 b o g.kept v d vs known ab ao at few) (W.coded.code v) (W.coded.code v) v) $ await ! tt $ pick ! (λ δ. split3 ! $
    fjoin ! $ move ! (1 ∷ []) $ split ! $ move ! (2 ∷ []) $
    -- [the lent cells; the token of κ; what the column follows; the others]
    let start : 0 * s + ao ≡ ao = ap (λ (k : ℕ). k + ao) (zero-mul s) ∙ zero-add ao in let made : Val = vstruct (vcons (vptr ab ao) (vcons (vstruct vnil) vnil)) in
    let It : RattleType = loan.the_row (named_lft 3 0 tt κs) K (param 1 P) g in let Data : RattleType = Struct (shape (loan.the_type (named_lft 3 0 tt κs) K (param 1 P) g)) in
    let new : It.Denot = record { start = block_ptr ab ao; mark = record {}; name = δ; tie = δ; from = 0; rest = v } in
    rewrite ! 0 (λ (k : ℕ). ‵ (lent_cells K g.kept κ ab k δ v)) (sym start) refl $ flt_i ! ((0 + length v) * s) (2 ^ 63) (subst (λ (k : ℕ). k * s < 2 ^ 63) (sym (zero-add (length v))) few) $ fjoin ! $
    use0 𝓛 (‵ (Data.own_val (block_ptr ab ao, (record {}, tt)) (made ∷ [])))
    (makes_shadow 𝓛 (Data.own_val (block_ptr ab ao, (record {}, tt)) (made ∷ [])) (λ vss. (tt, (tt, ((λ uss. (tt, tt)), tt)))) ((vptr ab ao ∷ [], (vstruct vnil ∷ [], tt)), (refl, (refl, ((tt, (refl, tt)), tt))))) $ fjoin ! $
    returns ! (look_at ! 0 refl) $ free_all ! refl $ move ! (1 ∷ 3 ∷ []) $ join ! $
    -- [the tokens; the loan; what the column follows]
    tells ! (new.rest ≡ v) refl $ tells ! (new.from ≡ 0) refl $ join ! $ move ! (3 ∷ 0 ∷ []) $ join ! $ spent ! 1 $ move ! (2 ∷ 0 ∷ 3 ∷ 1 ∷ []) $ by ! (leaves 𝓛 En hs c y made new (tt, tt) (tt, tt))))))))
