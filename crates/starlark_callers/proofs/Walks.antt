-- The names that the proofs by hand cite.
pub use mathlib.Core.Path.{◌≡◌, refl, sym, ap, subst, ◌∙◌}
pub use mathlib.Core.Bool.{Bool, true, false, ◌&&◌}
pub use mathlib.Core.Logic.{inl, inr}
pub use mathlib.Core.List.{List, [], ◌∷◌, ◌++◌}
pub use mathlib.Core.Option.{none as nameless, some as called}
pub use Prim.Native.Nat.{ℕ, ◌<◌, ◌^◌}
pub use native.Mathlib.Nat.{suc-ne-zero}
pub use lib.Dec.{T, lit<}
pub use lib.ListN.{length}
pub use seplogic.Ra.Ura.{Ura}
pub use base.Fraction.{full_share}
pub use base.FractionLaws.{common}
pub use mir.Syntax.{Fn, Args, Dict, a_type, dcons, dnil, named, w64}
pub use mir.MapTy.{inst_fn}
pub use mir.Val.{Val, vint, vptr, vstruct, vcons, vnil, of_list}
pub use base.Logic.{SProp, ent, sep, ex, emp, guard, wand, id⊢, apply∗, ex_e, snd∗}
pub use base.Fml.{Lft, GName, Share, ftrue, fdead, flft, fres}
pub use prog.Memory.{Memory}
pub use prog.Routine.{Routine}
pub use prog.Wp.{Env, Calls, Loops, WpFn}
pub use types.Logic.{Logic, sem}
pub use types.Match.{live, vrt, in_variant, by_variants}
pub use types.Tokens.{lft_new, lft_end, lft-common}
pub use types.Follow.{followed₂}
pub use contract.BorrowLft.{◌⊑◌, ⊑_trans, meet_⊑_left, meet_⊑_right}
pub use contract.Monad.{Fun, fact, fact_i}
pub use contract.Running.{tables}
pub use sound.WpLaws.{FmC}
pub use types.Kit.{by, ‵, raw, ◌⊛◌, some, given, later, at_ret, ◌$◌, ◌∵◌, !, qed, move, keep, drop, use0, use1, use2, use3, split, split3, join, pick, learn, fsplit, fsplit3, fjoin, fpick, fpack, feq_l, suffices, frame, await, updating, now, show, check, rewrite, group, done}
pub use types.Part.{whole, sub, agg}
pub use types.Run.{stop, fld, hop, from, addr, lit, of_opd, and_then, no_more, first as begins, exec, returns, enter}
pub use types.ByLocal.{alloc_all, pass_all, free_all, look_at, look_in_at, get, get_in, get_tag, through, sets, sets_last, lands_as, env}
pub use denote.Exit.{no, yes}
pub use denote.RattleType.{RattleType, owns}
pub use denote.Laws.{Is, shows}
pub use denote.Builtin.{usize}
pub use denote.Follow.{follows_both, follows_both_if}
pub use denote.Lend.{lends_again, comes_back, LentAgain}
pub use denote.Memory.{mem}
pub use denote.Param.{param, bounded, layouts, layout}
pub use denote.Param.Laws.{Laws, param_laws}
pub use denote.Plain.{uint_Makes, uint_Tells}
pub use denote.Ref.{Bor, MutBor, MutRef, ShrRef, mut_vals, mut_Tells, shr_Tells}
pub use denote.Signature.{plain, types_at, mut_ref_to}
pub use denote.Steps.{nothing, owned, heard, peeks, only}
pub use denote.Struct.Tuple.{Tuple, tuple_laws}
pub use denote.Triple.Call.{calls_at}
pub use denote.Triple.Clauses.{Clauses, Ended, Lasts, ensured, lasts}
pub use denote.Triple.Spec.{triple_of}
pub use denote.Triple.Statement.{Contract, Triple}
pub use denote.Triple.Table.{framed}
pub use denote.Triple.Walked.{Stays, stay_dropped, stay_ref, walk_of, ends_at, Goes-ref, Goes-dropped, Goes-spent_ref}
pub use Rattle.core.proofs.alloc.Calls.{Goes-blank}
pub use Rattle.core.proofs.cell.Inside.{Good}
pub use Rattle.core.proofs.result.Made.{Ok-of, Err-of}
pub use Rattle.std_alloc.proofs.ResultValues.{and_tt}
pub use Rattle.std.proofs.VecSteps.Shapes.{after}
pub use Rattle.std.proofs.raw_atomic.Walks.{proved_at}
pub use Rattle.std.specs.Prelude.{Option, Some, None, Result, Ok, Err, IfOk, IfErr, OnOk, OnErr, slice_get, slice_set}
pub use Rattle.starlark_hash.specs.declared.hashed.Hashed.{Hashed}
pub use Rattle.starlark_hash.specs.declared.no_room.NoRoom.{NoRoom}
pub use Rattle.starlark_small.proofs.LentInResult.{lone_value, in_err, as_tuple, Entry, entry_val, which}
