-- The names of std that the proofs of this library cite most, passed on from one place. Declares nothing.
pub use Rattle.std.proofs.Common.{Bool, Err, IsErr, IsOk, IsPermutation, IsSome, List, MatchOption, MatchResult, None, Ok, OnErr, Option, Result, Some, [], add-one, ap, append-nil, append_assoc, arith, bit_and, cond, count_by, drop, drop-cons, eq-eqb, eqb, false, fold, get_or, get_or-set_other, inl, inr, is_ok, is_some, length, length-append, length-take, lit<, map, max, min, nat_eq, not, of_calls, refl, rules, slice_get, string_bytes, subst, subst₂, suc, sym, take, true, true≢false, vec_capacity, zero, zip, ℕ, ℤ, ◌%◌, ◌*◌, ◌++◌, ◌+◌, ◌-◌, ◌/◌, ◌<◌, ◌==◌, ◌^◌, ◌∙◌, ◌∷◌, ◌≡◌, ◌≢◌, ◌≤◌, ◌⊎◌}
pub use Rattle.std.proofs.Math.Bool.{Bool-set}
pub use Rattle.std.proofs.Math.ListN.{length-set, set}
pub use Rattle.std.proofs.Math.Nat.{pow-suc}
pub use Rattle.std.proofs.Math.Seq.{get_or-append_seam}
pub use Rattle.std.proofs.lemmas.Bool.{and_parts, cases_eq, cases_lt, cond_both, eqb-true, false≢true}
pub use Rattle.std.proofs.lemmas.Bool.Decides.{nat_tests}
pub use Rattle.std.proofs.lemmas.Grind.{common_steps}
pub use Rattle.std.proofs.lemmas.Int.{to_z-of_z}
pub use Rattle.std.proofs.lemmas.List.{drop-drop, drop_all, drop_more, get_or-drop, get_or-map, get_or-set_same, get_or-take, get_or_append_left, get_or_default, length-drop, length-map, length-reverse, length_push, map-append, map-id, reverse-append, set-get_or, take-append-drop, take_all}
pub use Rattle.std.proofs.lemmas.List.Edits.{length-remove, length-swap, swap_is, swapped_from_swap}
pub use Rattle.std.proofs.lemmas.List.Elements.{All-append, All-cons, All-contains, All-filter, All-head, All-map, All-push, All-tail, All-weaker, AllZip-get_or, length_all_zip}
pub use Rattle.std.proofs.lemmas.List.FromFn.{get_or-enumerate_from, get_or-range_with_len, length-enumerate_from, length-range_with_len}
pub use Rattle.std.proofs.lemmas.List.Quantifiers.{position-Some}
pub use Rattle.std.proofs.lemmas.List.Sorted.{All-permutation, Contains-permutation, IsPermutation-append_right, IsPermutation-cons, IsPermutation-map, IsPermutation-middle, IsPermutation-refl, IsPermutation-reverse, IsPermutation-sym, IsPermutation-trans, length_permutation, ranks_by, sorted_far, sum_by-IsPermutation}
pub use Rattle.std.proofs.lemmas.Map.Entries.{place_from_lookup}
pub use Rattle.std.proofs.lemmas.Map.Made.{is_some-update_all}
pub use Rattle.std.proofs.lemmas.Option.{get_or_from_slice_get, none-some, same_Some, slice_get-get_or, slice_get-map, slice_get_within}
pub use Rattle.std.proofs.lemmas.Result.{IfOk-weaker, on_ok_weaker}
pub use Rattle.std.proofs.lemmas.Simd.{bitmask_splat, leading_from_mask_l, length-chunk}
pub use Rattle.std.proofs.lemmas.Slice.Eq.{bytes_eq-Decides}
pub use Rattle.std.specs.Borrow.{Bor, MutBor}
pub use Rattle.std.specs.Cmp.{IsEquivalence, IsStrictWeakOrder, IsTotalOrder}
pub use Rattle.std.specs.Cmp.Lexicographic.{pointwise}
pub use Rattle.std.specs.Fn.{Called, CalledAt, Mut, Takes, TakesAt}
pub use Rattle.std.specs.Hash.{HashWrites}
pub use Rattle.std.specs.Int.{w64}
pub use Rattle.std.specs.Int.Count.{count_trailing_zeros}
pub use Rattle.std.specs.Io.KnownBytes.{Appends, Keeps, prepend_known}
pub use Rattle.std.specs.Iterator.{Drains, EndsFrom, Yields, items_left}
pub use Rattle.std.specs.List.{All, AllByRecursion, AllZip, Contains, FoldsTo, enumerate_from, list_all, position_or_len, range_with_len, swap}
pub use Rattle.std.specs.List.Retain.{RetainsInTurn}
pub use Rattle.std.specs.List.Sorted.{IsSorted, IsSortedBy, IsSortedWithin, IsStableBy}
pub use Rattle.std.specs.Map.{IsKeyTest, keys_of, lookup, set_value, update_all, values_of}
pub use Rattle.std.specs.Map.Iter.{deref, deref_pair}
pub use Rattle.std.specs.Option.{option_and_then, option_copied, option_eq, option_map, option_map_or}
pub use Rattle.std.specs.Ordering.{eq_by_cmp, is_eq, is_lt, ordering_reverse}
pub use Rattle.std.specs.Prelude.{IfErr, IfNone, IfOk, IfSome, IsTrue, MatchBool, OnOk, filter, if◌then◌else◌, nat_lt, position, remove, reverse, slice_index, slice_index_or, slice_set, ⊤, ◌&&◌, ◌||◌}
pub use Rattle.std.specs.Set.{is_member}
pub use Rattle.std.specs.Simd.Lanes.{chunk, mask_l}
pub use Rattle.std.specs.Str.{bytes_eq}
pub use Rattle.std.specs.String.{string_eq}
pub use Rattle.std.specs.declared.alloc.Global.{Global}
pub use Rattle.std.specs.declared.cmp.Ordering.{Ordering}
pub use Rattle.std.specs.declared.cmp.Ordering.TheVariants.{Equal, Greater, Less}
pub use Rattle.std.specs.declared.string.String.{String}
