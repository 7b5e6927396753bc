-- `entries_unordered_mut` lends the table. The map is open during the call, and is closed by what the table ends as.
-- Assumes `Logic`.
use Rattle.starlark_columns.proofs.LogicNames.{◌≡◌, refl, sym, ap, subst, ◌∙◌, ◌+◌, ◌<◌, ◌^◌, List, [], ◌∷◌, length, full_share, a_type, dcons, dnil, named, named_lft, inst_fn, Val, SProp, id⊢, ex_e, snd∗, Lft, GName, Share, ftrue, fsep, flft, fauth, sem, ⊑_refl, ◌⊑◌, fact, tables, framed, proved, leaves, ages, bor_new_deep, open_ref, name_new, ‵, raw, ◌⊛◌, some, later, ◌$◌, ◌∵◌, !, qed, by, move, keep, drop, use1, use2, split, split3, join, pick, fsplit, fsplit3, fjoin, fjoin3, fpack, feq_i, await, group, stop, fld, addr, and_then, no_more, returns, enter, alloc_all, pass_all, free_all, look_at, get, through, sets, lands_as, no, follows, RattleType, owns, mem, param, bounded, MutBor, NamedLft, mut_vals, mut_Tells, types_at, nothing, heard, calls_at, ensured, lasts, triple_of, Contract, walk_of, shows, part_at, param_laws, peeks, arg, arg_copy, arg_laws, Ty, tcons, tnil, ty_int, ty_struct, w32, tells, spent, drops, drops_go}
use base.Share
use Rattle.core.specs.contracts.clone.Clone+copy.TheImpl as copies
use Rattle.core.proofs.clone.Clone+copy.TheImpl.Met as copies_met
use Rattle.starlark_hash.specs.contracts.hash_value.StarlarkHashValue.{the_row as hash_row}
use Rattle.starlark_hash.proofs.hash_value.StarlarkHashValue.TheLaws as hash_laws
use Rattle.starlark_table.specs.contracts.kept_hash.StarlarkHashValueKeptHash.TheImpl as kept
use Rattle.starlark_table.proofs.kept_hash.StarlarkHashValueKeptHash.TheImpl.Met as kept_met
use Rattle.starlark_table.specs.Table.{Table, items_of, members}
use Rattle.starlark_table.specs.Lend.{with_values}
use Rattle.starlark_table.specs.contracts.pairs_mut.PairsMut as pairs
use Rattle.starlark_table.specs.contracts.ready_table.pairs_mut.ReadyTable+tuple2+K+V+H.pairs_mut as g
use Rattle.starlark_table.proofs.ready_table.pairs_mut.ReadyTable+tuple2+K+V+H.pairs_mut.Met as walks
use Rattle.starlark_table.proofs.pairs_mut.PairsMut.TheLaws as pairs_laws
use Rattle.starlark_columns.proofs.NamedLoan.{closes_named}
use Rattle.starlark_columns.proofs.ProofSteps.{good_value}
use Rattle.starlark_table.proofs.LoanNames.{renamed}
use Rattle.starlark_unordered.specs.Pairs.{pairs_of, HasDistinctKeys}
use Rattle.starlark_unordered.specs.Sound.{IsKeyed}
use Rattle.starlark_unordered.proofs.Keys.{distinct_pairs}
use Rattle.starlark_unordered.proofs.UnorderedMapFields as O
use Rattle.starlark_unordered.specs.contracts.unordered_map.UnorderedMap.entries_unordered_mut as contract
use Rattle.starlark_unordered.proofs.unordered_map.UnorderedMap.entries_unordered_mut as routine

pub entries_unordered_mut_spec : {M : Type 1} → routine.Statement.statement M
entries_unordered_mut_spec {M} 𝓤 𝓛 𝓜 𝓡 wired A B LA LB E dE P dP G dG is_eq is_partial is_hash =
    let 𝓣 = tables 𝓤 𝓛.H 𝓜 𝓡 𝓡.env in let En = contract.ended A B E dE P dP G dG in
    let inst = bounded (a_type ∷ a_type ∷ []) (A, (B, tt)) (dcons dE (dcons dP (dcons dG dnil))) in let fn = inst_fn inst routine.Code.function in let hs = drops En in
    let c = contract.clauses A B E dE P dP G dG 𝓛 𝓜.mem 𝓡.returns in let K : RattleType = param 0 A in let V : RattleType = param 1 B in let LK = param_laws 0 A LA in let LV = param_laws 1 B LB in
    let W : RattleType = O.Whole K V P G in let TableRow : RattleType = O.TableRow K V P G in let D : Type 0 = O.Fields K V P G in let Bag : Type 0 = Table (A.Denot × B.Denot) in
    -- the type of a hash, as a call passes it: without its name
    let nameless : Ty = ty_struct [] (tcons (ty_int w32) tnil) in let Passed : RattleType = arg nameless no hash_row in
    let passed_laws = arg_laws nameless no hash_row hash_laws.the_row_laws refl in let passed_copy = arg_copy nameless no hash_row hash_laws.the_row_copy refl in
    let as_copied = copies.ghosts Passed in let by_copy = copies.dict Passed in
    let Run : Contract 𝓤 = triple_of 𝓛 (g.signature A B Passed kept.ghosts kept.dict as_copied by_copy) (g.spec A B Passed kept.ghosts kept.dict as_copied by_copy 𝓛 𝓜.mem 𝓡.returns) in
    let is_kept = kept_met.bound 𝓡.env (routine.Code.calls-starlark_table::kept_hash::StarlarkHashValueKeptHash::number 𝓡.env wired) (routine.Code.calls-starlark_table::kept_hash::StarlarkHashValueKeptHash::is_same 𝓡.env wired) M 𝓤 𝓛 𝓜 𝓡 in
    let is_copied = copies_met.bound 𝓡.env (routine.Code.calls-core::clone::Clone+copy::clone 𝓡.env wired) Passed passed_laws passed_copy M 𝓤 𝓛 𝓜 𝓡 in
    let met = walks.met 𝓤 𝓛 𝓜 𝓡 (routine.Code.calls-starlark_table::ready_table::pairs_mut::ReadyTable+tuple2+K+V+H::pairs_mut 𝓡.env wired) A B Passed LA LB passed_laws passed_copy
    kept.ghosts kept.dict as_copied by_copy (record { number = is_kept.number; is_same = is_kept.is_same }) (record { clone = is_copied.clone }) in
    proved 𝓛 En hs c 𝓜 𝓡 (drops_go 𝓛 En (λ κs x f. refl, tt)) (contract.Key.name inst) fn (routine.Code.unfolded 𝓤 𝓛.H 𝓜 𝓡 wired (A, (B, tt)) dE dP dG)
    (λ κs. (mut_vals, tt)) (λ κs. (mut_Tells (named 0) κs.0 W, tt)) (λ κs qs bounds a gh are.
    let κ : Lft = κs.0 in let q : Share = qs.0 in let κA : Lft = κs.1.0 in let qA : Share = qs.1.0 in let κB : Lft = κs.1.1.0 in let qB : Share = qs.1.1.0 in let qr = Share.right q in
    let self : MutBor W.Denot = a.0 in let b = self.ref_ptr.0 in let o = self.ref_ptr.1 in let v : W.Denot = self.now in let γ : GName = self.ghost_name in
    let lft : NamedLft = named_lft 3 0 tt κs in let It : RattleType = pairs.the_row lft K V hash_row kept.ghosts in let y : (walk_of 𝓛 En hs c).Ghost = ((κs, qs, bounds, a, (mut_vals self, tt)), gh) in
    qed 𝓛 (((‵ (flft κ q) ⊛ ‵ (flft κA qA) ⊛ ‵ (flft κB qB) ⊛ ‵ ftrue) ⊛ ‵ (owns (types_at En.signature.params κs) a y.0.4)) ∷ raw (fact 𝓤 (κA ⊑ A.lives)) ∷ raw (fact 𝓤 (κB ⊑ B.lives)) ∷ ‵ ftrue ∷ []) ∵
    move ! (1 ∷ 2 ∷ []) $ heard ! _ (λ la. heard ! _ (λ lb. split ! $ split3 ! $ move ! (2 ∷ []) $ split ! $ move ! (4 ∷ []) $ fsplit ! $ keep ! (4 ∷ 0 ∷ 5 ∷ 2 ∷ 3 ∷ []) $
    -- [the token of κ; the map; the tokens of κA, κB; nothing]
    enter ! _ _ _ _ _ $ alloc_all ! (λ l. pass_all ! refl ((tt, tt), tt) $
    sets ! (addr ! (through ! refl (fld ! refl (stop !)))) refl (tt, tt) $
    -- half of κ's token opens the map, and the halves of the other half go into the call, for κ and for the hash
    use1 𝓛 (‵ (flft κ (Share.left q)) ⊛ ‵ (flft κ qr)) (𝓛.lfts.lft_split κ q) $ split ! $
    move ! (1 ∷ []) $ use1 𝓛 (‵ (flft κ (Share.left qr)) ⊛ ‵ (flft κ (Share.right qr))) (𝓛.lfts.lft_split κ qr) $ split ! $
    move ! (3 ∷ []) $ fsplit3 ! $ drop ! $ move ! (0 ∷ 1 ∷ 4 ∷ []) $ open_ref ! tt (mem W) {b = b} {o = o} $
    use1 𝓛 (some (λ (d : (d : D) × O.AreFieldsOf K V P G v d). raw (O.Parts K V P G 𝓛 b o v d))) (O.take_apart K V P G 𝓛 b o LK LV v) $ pick ! (λ d'.
    let d = d'.0 in let xs : Bag = d.table in let place = o + O.table_offset K V P G in let Rest : SProp 𝓤 = O.Rest K V P G 𝓛 b o d in
    use1 𝓛 (‵ (part_at TableRow full_share xs b place) ⊛ raw Rest) (id⊢ 𝓤 _) $ split ! $
    -- [the table; the rest; the open borrow; obs; auth; both parts of the other half; the tokens of κA, κB; nothing]
    name_new ! tt (TableRow.coded.code xs) (λ δ. move ! (2 ∷ 1 ∷ []) $ fjoin ! $ fpack ! TableRow.Denot (λ z. fsep ((mem TableRow).own_at z b place) (fauth δ (TableRow.coded.code z))) xs $
    -- [the content; obs δ; the rest; the open borrow; obs; auth; ..]
    move ! (3 ∷ []) $ ages ! (λ n. move ! (1 ∷ []) $ bor_new_deep ! tt n κ $
    -- [the borrow, its right; the open borrow; obs δ; the rest; obs; auth; both parts of the other half; the tokens of κA, κB; nothing]
    let lent : MutBor Bag = record { ref_ptr = (b, place); ghost_name = δ; now = xs } in
    move ! (3 ∷ 0 ∷ []) $ feq_i ! (List Val) (mut_vals lent) (mut_vals lent) refl $ fjoin3 ! $ nothing ! $ move ! (1 ∷ 0 ∷ []) $ fjoin ! $ move ! (6 ∷ 8 ∷ 9 ∷ 7 ∷ 10 ∷ 0 ∷ []) $ group ! 5 $ join ! $
    nothing ! $ tells ! (κ ⊑ hash_row.lives) (hash_laws.the_within κ) $ tells ! (κB ⊑ B.lives) lb $ tells ! (κA ⊑ A.lives) la $ group ! 4 $ move ! (1 ∷ 0 ∷ []) $ join ! $
    let z : Run.Ghost = (((κ, (κA, (κB, (κ, tt)))), (Share.left qr, (qA, (qB, (Share.right qr, tt)))), (bounds.0, (bounds.1.0, (⊑_refl κ, tt))), (lent, tt), (mut_vals lent, tt)), tt) in
    use1 𝓛 (raw (Run.pre z)) (id⊢ 𝓤 _) $ calls_at ! (framed 𝓤 𝓛.H 𝓜 𝓣) Run met z (and_then ! (get ! refl) (no_more !)) (λ u.
    use1 𝓛 (later (some (λ (x : It.Denot). ((‵ (flft κ (Share.left qr)) ⊛ ‵ (flft κA qA) ⊛ ‵ (flft κB qB) ⊛ ‵ (flft κ (Share.right qr)) ⊛ ‵ ftrue) ⊛ ‵ (It.own_val x (u ∷ [])))
    ⊛ raw (ensured 𝓛 (g.ended A B Passed kept.ghosts kept.dict as_copied by_copy) (g.clauses A B Passed kept.ghosts kept.dict as_copied by_copy 𝓛 𝓜.mem 𝓡.returns) z.0.0 z.0.3 tt x)))) (id⊢ 𝓤 _) $ await ! tt $ pick ! (λ x. split ! $ move ! (1 ∷ []) $
    use1 𝓛 (‵ (follows TableRow TableRow δ x.1 (with_values xs)) ⊛ raw (fact 𝓤 (x.0 ≡ items_of xs)) ⊛ raw (fact 𝓤 (length (items_of xs) < 2 ^ 64)))
    (ex_e 𝓤 _ (λ ws. snd∗ 𝓤 (sem 𝓛 (lasts (g.ended A B Passed kept.ghosts kept.dict as_copied by_copy) z.0.0 z.0.3 ws)) _)) $ split3 ! $ move ! (1 ∷ 2 ∷ []) $ heard ! _ (λ walked. heard ! _ (λ fits.
    -- [what the table follows; the tokens with the iterator; the right; the open borrow; the rest; obs; auth]
    move ! (3 ∷ 5 ∷ 6 ∷ 2 ∷ 0 ∷ 4 ∷ []) $ group ! 6 $ use1 𝓛 (later (some (λ (tie : GName). ‵ (flft κ (Share.left q)) ⊛ ‵ (follows W W γ tie (with_values v)))))
    (closes_named 𝓛 (mem W) (mem TableRow) (mem TableRow) (with_values xs) (with_values xs) (with_values v)
    (λ w. ap (λ (t : Bag). with_values t (with_values xs w)) (sym d'.1.0) ∙ ap (λ slots. record xs { slots = slots }) (O.written xs.slots w.slots).1) κ (Share.left q) b o b place γ δ x.1 Rest
    (λ w. O.put_together K V P G 𝓛 b o (with_values xs w) (record d { table = with_values xs w }) (refl, subst (IsKeyed P.eq G.hash_input) (sym (O.written xs.slots w.slots).0) d'.1.1)) n (W.coded.code v) (W.coded.code v) v) $ await ! tt $ pick ! (λ tie. split ! $
    -- [half of κ's token; what the map follows; the tokens with the iterator]
    move ! (2 ∷ []) $ split ! $ split3 ! $ move ! (2 ∷ []) $ split3 ! $ move ! (3 ∷ 1 ∷ []) $ use2 𝓛 (‵ (flft κ qr)) (𝓛.lfts.lft_join κ qr) $ move ! (5 ∷ 0 ∷ []) $ use2 𝓛 (‵ (flft κ q)) (𝓛.lfts.lft_join κ q) $
    move ! (4 ∷ 0 ∷ 3 ∷ 1 ∷ 2 ∷ []) $
    -- [the iterator; the tokens of κ, κA, κB; nothing; what the map follows]
    peeks ! It _ (shows 𝓛 It) x (u ∷ []) (λ is. lands_as ! refl refl (good_value 𝓛 It (pairs_laws.the_row_laws lft K V hash_row kept.ghosts LK LV hash_laws.the_row_laws) x u is) $
    let new : It.Denot = (x.0, tie) in use1 𝓛 (‵ (It.own_val new (u ∷ []))) (renamed lft K V hash_row kept.ghosts 𝓛 x tie (u ∷ [])) $ returns ! (look_at ! 0 refl) $ free_all ! refl $
    move ! (1 ∷ 2 ∷ 3 ∷ 4 ∷ []) $ group ! 4 $ tells ! (length (pairs_of v) < 2 ^ 64) (subst (λ m. length (pairs_of m) < 2 ^ 64) d'.1.0 fits) $
    tells ! (HasDistinctKeys P.eq (pairs_of v)) (subst (λ m. HasDistinctKeys P.eq (pairs_of m)) d'.1.0 (distinct_pairs P.eq G.hash_input (members xs) d'.1.1)) $
    tells ! (x.0 ≡ pairs_of v) (walked ∙ ap pairs_of d'.1.0) $ group ! 3 $
    move ! (3 ∷ 0 ∷ []) $ join ! $ spent ! 1 $ move ! (2 ∷ 0 ∷ 3 ∷ 1 ∷ []) $ by ! (leaves 𝓛 En hs c y u new (tt, tt) (tt, tt)))))))))))))))
