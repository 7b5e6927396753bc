-- Re-exports the names of the logic and of std that proofs by hand cite, so that each of them needs one line, and has a
-- few steps that they share. A comment in brackets in such a proof lists what is held at that point, in order. Assumes
-- `Logic`.
--     tells     proves a fact, which is a clause of the `ensures`
--     spent     nothing is left of the last n parameters
--     used_at   a function from P x to Q x for every x, applied at one x
--     drops, drops_go     nothing is left of any parameter at the end, which is one `refl` for each
use types.Kit.{Goal, Step, step}
use denote.Signature.{Slot}
use denote.Triple.End.{Kepts}
use denote.Triple.Walked.{Silent, AllGo}
pub use Rattle.core.proofs.alloc.Calls.{Al, Answer-typed, Answered, Gives, Gives-Gives, Gives-goes, Goes-blank, Takes, Takes-gives, Takes-goes, answers, at_gives, at_takes, token}
pub use Rattle.core.proofs.cell.Inside.{Good}
pub use Rattle.core.proofs.mem.Param.{El, el_x, elτ, R}
pub use Rattle.core.proofs.option.Made.{Some-of, none_of}
pub use Rattle.core.proofs.ptr.Rows.{add_times, times_below}
pub use Rattle.core.proofs.result.Made.{Err-of, Ok-of}
pub use Rattle.core.proofs.result.Result.TheLaws.{the_row_laws as result_laws}
pub use Rattle.core.proofs.slice.Rows.{el_out}
pub use Rattle.core.proofs.slots.Bodies.{after, arm_body, head}
pub use Rattle.core.proofs.slots.Leases.{args, block_align, block_size, block_ty, uncapped}
pub use Rattle.core.proofs.slots.Opens.{Sr, row_had, row_made, row_val, words_val}
pub use Rattle.core.proofs.slots.Places.{sz}
pub use Rattle.core.specs.Allocator.{HasLayout}
pub use Rattle.core.specs.Mem.Slots.{slots_counts, slots_filled, slots_items, slots_len, slots_ptr, slots_small}
pub use Rattle.core.specs.Mem.Slots.Ownership.{slots}
pub use Rattle.core.specs.Option.{ghost_name_of, option_copied_mut}
pub use Rattle.core.specs.declared.alloc.Allocator.{Ghosts}
pub use Rattle.std.proofs.Common.{Bool, Err, IfErr, IfOk, IfSome, List, Ok, Option, Result, Some, [], add-one, ap, append-nil, append_assoc, arith, bit_and, false, get_or, inl, inr, length, lit<, map, refl, rules, slice_get, slice_set, subst, suc, sym, take, true, w64, zero, ℕ, ◌%◌, ◌*◌, ◌++◌, ◌+◌, ◌-◌, ◌<◌, ◌^◌, ◌∙◌, ◌∷◌, ◌≡◌, ◌≢◌, ◌≤◌, ◌⊎◌, T, set, take-add, is_some, option_map, unwrap_or, eqb, eqb→eq, length-append, length-drop, length-set, length-take, take-append-drop, drop-cons, take_at as front_of, drop as list_drop, cond, ◌&&◌, ap₂, add-zero, suc-mul, suc-ne-zero, zero-add, zero-mul}
pub use Rattle.std.proofs.lemmas.List.{drop-drop, drop-take, get_or-drop, get_or-set_same, get_or_default, length-map, set-get_or, set-set, take-set, take-take, length-replicate}
pub use Rattle.std.proofs.lemmas.List.Folds.{drop_split}
pub use Rattle.std.proofs.lemmas.List.Sorted.{length_permutation}
pub use Rattle.std.proofs.lemmas.Option.{slice_get_within}
pub use Rattle.std.proofs.raw_atomic.Walks.{leaves, proved, proved_at}
pub use Rattle.std.specs.Borrow.{name_if_ok}
pub use Rattle.std.specs.Fn.{CalledAt, CalledAtMut, Mut, TakesAt}
pub use Rattle.std.specs.Int.Count.{count_trailing_zeros}
pub use Rattle.std.specs.List.{refill, slice_range}
pub use Rattle.std.specs.List.Retain.{RetainsInTurn}
pub use Rattle.std.specs.Map.{lookup}
pub use Rattle.std.specs.Mem.{type_size}
pub use Rattle.std.specs.Prelude.{IsOk, MatchResult, None, OnErr, OnOk, if◌then◌else◌, min, zip, ⊤, IsErr}
pub use Rattle.std.specs.Vec.Ownership.{FitsInBlock}
pub use Rattle.std.specs.contracts.impls.GlobalAllocator.TheImpl.{ghosts}
pub use Rattle.std_alloc.proofs.ResultValues.{and_tt, err_of, ok_of}
pub use Rattle.starlark_columns.specs.Cells.{AreFilled, IsFilled, empties, items_of, with_range}
pub use base.Fml.{Fml, GName, Incl, Incl-refl, Incl-trans, Lft, Share, fat, fauth, fbor, fdead, fex, flent, flft, fobor, fobs, fres, froom, fsep, ftrue, fupd, fwand}
unfoldable pub use base.Fml.{fseps}
pub use base.Fraction.{full_share}
pub use base.FractionLaws.{common}
pub use base.Logic.{SProp, all, all_e, apply∗, emp, ent, ex, ex_e, fst∗, guard, id⊢, mono_r, never, sep, snd∗, upd_i, via, wand, wand_i, guard_i}
pub use base.Stored.{Gv, coded_list}
pub use borrow.Table.Elements.{at, at_mul, cut_app, join_app}
pub use contract.BorrowLft.{meet_⊑_left, meet_⊑_right, ⊑_meet, ⊑_refl, ⊑_trans, ◌⊑◌}
pub use contract.Lifetimes.{AllOutlive, Lfts, toks}
pub use contract.Monad.{Fun, fact, fact_i, fact_use}
pub use contract.Running.{tables}
unfoldable pub use contract.Running.{tables_of}
pub use denote.Array.{Array}
pub use denote.Builtin.{RefOf, u32, u64, unit, usize}
pub use denote.Exit.{Last, left, no, rest, yes}
pub use denote.Follow.{Part, follows, follows_both, follows_both_if, follows_if, follows_said, follows_so, follows_then, lends_Part}
unfoldable pub use denote.Follow.{both_by, both_if_by, follows_by, such_by}
pub use denote.FollowSlice.{Elements, heres_id, lends_Elements}
pub use denote.Laws.{Is, shows}
pub use denote.Lend.{LentAgain, comes_back, lends_again}
pub use denote.Memory.{cell_at, lone, mem, part_at}
unfoldable pub use denote.Memory.{part_of}
pub use denote.Model.Fields.{Plain-in, plain_out, view_made}
pub use denote.Opens.{hide, unhide}
pub use denote.Param.{arg, bounded, layout, layouts, param, copied}
pub use denote.Param.Laws.{Laws, arg_laws, is_one, of_field, param_laws, row_shared, copied_laws, IsCopy, arg_copy}
pub use denote.Param.Lives.{in_all}
pub use denote.Param.Mute.{blank}
pub use denote.Param.Shared.{copy_shared, mut_ref_shared}
pub use denote.Plain.{uint_Makes, uint_Tells, uint_vals}
pub use denote.RattleType.{Denots, RattleType, Valss, lives_all, owns}
pub use denote.RawPtr.{Ptr, RawPtr, block_ptr, in_a_block, in_block, null_ptr, ptr_val, Testable, InBlock}
pub use denote.Ref.{Bor, MutBor, MutRef, NamedLft, ShrRef, mut_Tells, mut_vals, shr_Tells, shr_vals}
pub use denote.Shadow.{makes_shadow, pure_i, pure_l}
pub use denote.SharingLaws.{nothing_shr_laws}
pub use denote.Signature.{mut_ref_to, named_lft, plain, types_at}
pub use denote.Slice.{MutSlice, Room, ShrSlice, elements_shared, mut_slice_at, mut_slice_vals, room, slice_ty, slice_val}
pub use denote.Steps.{closes, facts, heard, nothing, only, opens, owned, peeks}
pub use denote.Struct.Declared.{field, fields}
pub use denote.Struct.Field.{mut_ref_field, shr_ref_field, u32-field, u64-field, unit-field, usize-field}
pub use denote.Struct.Laws.{field_copy, mut_ref_laws, shr_ref_copy, shr_ref_laws, u32-copy, u32-laws, u64-copy, u64-laws, unit-copy, unit-laws, usize-copy, usize-laws}
pub use denote.Struct.Lending.{Lends-nothing, of_Lends}
pub use denote.Struct.Loose.{lawfuls}
pub use denote.Struct.Members.{Member, parts_at, row_of, rows_of}
pub use denote.Struct.Owning.{shape}
pub use denote.Struct.Parts.{PartsBack, Struct-parts, shape_of}
pub use denote.Struct.Struct.{Struct, Struct-Makes, within}
pub use denote.Struct.Tuple.{Tuple, parts_loose, tuple_laws, tuple_type}
pub use denote.Triple.Call.{calls_at, calls_at_last}
pub use denote.Triple.Clauses.{Clauses, Ended, Lasts, closing, ensured, lasts}
pub use denote.Triple.Spec.{Meets, triple_of}
pub use denote.Triple.Statement.{Contract, Triple}
pub use denote.Triple.Table.{entered, framed}
pub use denote.Triple.Walked.{Goes-dropped, Goes-ref, Goes-spent_ref, Stays, ends_at, says, stay_dropped, stay_ref, walk_Meets, walk_of, walked}
pub use ghost.Rules.{aged}
pub use mathlib.Core.List.{not-mem-nil}
pub use mathlib.Core.Option.{none}
pub use mir.MapTy.{inst_fn}
pub use mir.Raw.{raw as bare}
pub use mir.Syntax.{Args, Dict, Fn, Lifetime, Ty, Tys, a_type, dcons, dnil, named, tcons, tnil, ty_array, ty_int, ty_ptr, ty_struct, ty_unit, w32}
pub use mir.Val.{Val, WT, has_ty, of_list, vcons, vint, vnil, vptr, vstruct, vunit}
pub use prog.Align.{Dv, dv_self, dv_zero}
pub use prog.Capped.{capped_fits, capped_small}
pub use prog.Memory.{Memory, align, capped, pad, size, up}
pub use prog.Model.{rooms_at}
pub use prog.RawLaws.{align-raw, size-raw}
pub use prog.Routine.{Routine}
pub use prog.Wp.{Calls, Env, Loops, Tables, Wp, WpFn, after_seq, at_return}
pub use seplogic.Bi.Basic.{and}
pub use seplogic.Ra.Ura.{Ura}
pub use sound.WpLaws.{FmC, WpFn-mono, fm_of}
pub use types.ByLocal.{alloc_all, env, free_all, get, get_in, get_tag, give_at, holding, is, lands_as, lands_last, look_at, look_in_at, pass_all, sets, sets_last, take_at, through}
pub use types.Follow.{Came, after as after₁, after₂, came, closes_following, followed₂, follows_anew, takes_beside, takes_part, takes_two}
pub use types.Kit.{ !, Post as After, Item, any_q, assume, at_ret, await, by, check, done, drop, feq_i, feq_l, fjoin, fjoin3, flt_i, flt_l, fpack, fpick, frame, fsplit, fsplit3, given, group, join, keep, later, learn, mean, move, now, pick, prop, qed, raw, regoal, rewrite, show, some, split, split3, suffices, updating, use0, use1, use2, use3, ‵, ◌$◌, ◌∵◌, ◌⊛◌}
pub use types.Late.{ages, bor_new_deep, close_deep, deep}
pub use types.Logic.{Logic, sem}
pub use types.Match.{by_variants, in_variant, live, vrt}
pub use types.Mut.{open_ref}
pub use types.Part.{agg, look_in, sub, whole}
pub use types.Run.{addr, align_word, and_then, bin, blocks, enter, exec, first, fld, from, hop, lit, load, look, no_more, of_opd, returns, size_word, stop, switches_on, unit_lit}
pub use types.SemTy.{Arr, Body, SemTy, cells}
pub use types.Tokens.{lft-common, lft_end, lft_new, name_done, name_new, res_agree}

pub used_at : {M : Type 1} (𝓤 : Ura M) {X : Type 0} (P Q : X → SProp 𝓤) (x : X) → ent 𝓤 (sep 𝓤 (P x) (all 𝓤 (λ z. wand 𝓤 (P z) (Q z)))) (Q x)
used_at 𝓤 P Q x = via 𝓤 (sep 𝓤 (P x) (wand 𝓤 (P x) (Q x))) (mono_r 𝓤 (P x) (all_e 𝓤 (λ z. wand 𝓤 (P z) (Q z)) x)) (apply∗ 𝓤 (P x) (Q x))

-- nothing is left of each of n parameters
abbrev idle : ℕ → Fml
idle zero = ftrue
idle (suc n) = fsep ftrue (idle n)

module _ {M : Type 1} {𝓤 : Ura M} {𝓛 : Logic 𝓤} {K : Type 0} {Γ : List (Item 𝓤)} {G : Goal 𝓤 𝓛.H} where
  pub tells : K → (φ : Type 0) → φ → Step K 𝓛 (raw (fact 𝓤 φ) ∷ Γ) G Γ G
  tells t φ x = use0 𝓛 (raw (fact 𝓤 φ)) (fact_i 𝓤 φ (emp 𝓤) x)

  pub spent : K → (n : ℕ) → Step K 𝓛 (‵ (idle n) ∷ Γ) G Γ G
  spent t zero = nothing t
  spent t (suc n) = step (λ s. spent t n $ nothing t $ fjoin t $ s)

abbrev dropped : {n : ℕ} (ss : List (Slot n)) (ks : Kepts ss) → Stays ss ks
dropped [] ks = tt
dropped (s ∷ ss) ks = (stay_dropped s ks.0, dropped ss ks.1)

abbrev pub drops : (T : Ended) → Stays T.signature.params T.kept
drops T = dropped T.signature.params T.kept

module _ {M : Type 1} {𝓤 : Ura M} (𝓛 : Logic 𝓤) where
  abbrev Silents : {n : ℕ} (ss : List (Slot n)) → Kepts ss → Type 1
  Silents [] ks = Unit {1}
  Silents {n} (s ∷ ss) ks = Silent 𝓛 n s ks.0 × Silents ss ks.1

  go : {n : ℕ} (ss : List (Slot n)) (ks : Kepts ss) → Silents ss ks → AllGo 𝓛 n ss ks (dropped ss ks)
  go [] ks q = tt
  go {n} (s ∷ ss) ks q = (Goes-dropped 𝓛 n s ks.0 q.0, go ss ks.1 q.1)

  pub drops_go : (T : Ended) → Silents T.signature.params T.kept → AllGo 𝓛 T.signature.lifetimes T.signature.params T.kept (drops T)
  drops_go T = go T.signature.params T.kept
