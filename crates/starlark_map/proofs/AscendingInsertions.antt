-- Ascending items, inserted one after the other, each under its own hash.
use Rattle.starlark_hash.proofs.Common.{◌≡◌, ◌+◌, Bool, true, false, List, [], ◌∷◌, ◌++◌, map, length, get_or, Some, None, refl, sym, ap, subst, ◌∙◌, arith, remove, IsTotalOrder, HashWrites, Drains, IsSorted, option_map_or, eq_by_cmp, is_lt, Ordering, Less, common_steps, append_assoc, get_or_append_left, get_or-map, length-append, length-map, map-append, map-id, All-push, ranks_by, sorted_far}
use Rattle.std.specs.Prelude.{AllPairs, All}
use Rattle.std.specs.Cmp.{Equal-is, tied_back}
use Rattle.std.specs.Vec.Iter.{into_iter_items, into_iter_len, into_iter_steps}
use Rattle.std_alloc.specs.declared.vec.into_iter.IntoIter.{IntoIter}
use Rattle.std.proofs.lemmas.Iterator.{items_from_drains}
use Rattle.std.proofs.lemmas.Iterator.Adapters.{YieldsList-from_vec}
use Rattle.std.proofs.lemmas.List.Edits.{remove-append_right}
use Rattle.std.proofs.lemmas.List.{get_or-append-add}
use Rattle.std.proofs.lemmas.List.Quantifiers.{all_pairs_push, all_pairs_remove}
use Rattle.starlark_hash.specs.Entries.{entry_hash, entry_key, match_of, set_value_at, stands_under}
use Rattle.starlark_hash.specs.Hasher.{own_hash}
use Rattle.starlark_hash.specs.HashValue.{hash_number}
use Rattle.starlark_hash.proofs.PositionLemmas.{position-None}
use Rattle.starlark_small.specs.Collect.{insert_all}
use Rattle.starlark_sets.proofs.Additions.{set_unit_at}
use Rattle.starlark_small.specs.Map.{own_hashed}
use Rattle.starlark_sets.specs.Collect.{own_element}
use Rattle.starlark_sets.specs.Set.{Elements}
use Rattle.starlark_small.specs.Lookup.{AreOwnEntries}
use Rattle.starlark_map.specs.Sorted.{AscendsStrictly}
use Rattle.starlark_map.proofs.AscendingLists.{less}

remove_middle : {X : Type 0} (xs ys : List X) (x : X) → remove (xs ++ x ∷ ys) (length xs) ≡ xs ++ ys
remove_middle xs ys x = grind (arith, common_steps, remove-append_right xs (x ∷ ys) (length xs) (length xs))

module _ {T : Type 0} {cmp : T → T → Ordering} {eq : T → T → Bool} {feeds : T → HashWrites} (total : IsTotalOrder cmp) (ties : (x y : T) → eq x y ≡ eq_by_cmp cmp x y) (respects : (x y : T) → eq x y ≡ true → feeds x ≡ feeds y) where
  -- no item is less than one before it
  abbrev Rises : List T → Type 0
  Rises xs = AllPairs (λ x y. is_lt (cmp y x) ≡ false) xs

  rises : (xs : List T) → IsSorted cmp xs → Rises xs
  rises xs up i j d below inside = sorted_far (λ x y. is_lt (cmp x y)) (ranks_by total (λ x. x)) xs up i j d (omega (arith, below)) inside

  -- an item that is not less than the earlier ones, and has no match among them, is greater than each
  above : (es : Elements T) (x : T) (xs : List T) → AreOwnEntries feeds es → Rises (map entry_key es ++ x ∷ xs) → match_of eq es (own_hashed feeds x) ≡ None
      → All (λ e. cmp (entry_key e) x ≡ Less) es
  unfolding AreOwnEntries
  above es x xs own up none k e inside =
      let key = entry_key (get_or es k e) in
      let ks = map entry_key es in
      let long = length-map es entry_key in
      let here : get_or (ks ++ x ∷ xs) k x ≡ key = get_or_append_left ks (x ∷ xs) x k (omega (arith, long, inside)) ∙ get_or-map entry_key es k e x inside in
      let low : is_lt (cmp x key) ≡ false = cc (here, get_or-append-add ks (x ∷ xs) 0 x, up k (length ks + 0) x (omega (arith, long, inside)) (omega (arith, length-append ks (x ∷ xs)))) in
      less (cmp key x) (cmp x key) (total.antisymm key x) low
      (λ level.
      let back : eq x key ≡ true = ties x key ∙ (Equal-is (cmp x key)).1 (tied_back total key x level) in
      let hashes = own k e inside ∙ ap (own_hash (λ (writes : HashWrites). writes)) (sym (respects x key back)) in
      grind (arith, common_steps, position-None (stands_under (own_hash feeds x) (eq x)) es none k e inside, ap hash_number hashes))

  -- the inserted list ascends strictly, from the list so far and the items to come
  inserted : (es : Elements T) (xs : List T) → AreOwnEntries feeds es → AscendsStrictly cmp es → Rises (map entry_key es ++ xs) → AscendsStrictly cmp (insert_all eq es (map (own_element feeds) xs))
  unfolding AreOwnEntries
  inserted es [] own strict up = strict
  inserted es (x ∷ xs) own strict up =
      elim (match_of eq es (own_hashed feeds x)) as (λ o. match_of eq es (own_hashed feeds x) ≡ o → AscendsStrictly cmp (insert_all eq (option_map_or (λ i. set_value_at es i tt) o (es ++ own_element feeds x ∷ [])) (map (own_element feeds) xs))) [
        | None ↦ λ none. inserted (es ++ own_element feeds x ∷ []) xs
            (All-push (λ e. entry_hash e ≡ own_hash feeds (entry_key e)) es (own_element feeds x) own refl)
            (all_pairs_push (λ d e. cmp (entry_key d) (entry_key e) ≡ Less) es (own_element feeds x) strict (above es x xs own up none))
            (subst Rises (sym (ap (λ l. l ++ xs) (map-append entry_key es (own_element feeds x ∷ [])) ∙ append_assoc (map entry_key es) (x ∷ []) xs)) up)
        | Some i ↦ λ found. rw (set_unit_at es i) (inserted es xs own strict
            (subst Rises (remove_middle (map entry_key es) xs x) (all_pairs_remove (λ y z. is_lt (cmp z y) ≡ false) (map entry_key es ++ x ∷ xs) (length (map entry_key es)) (omega (arith, length-append (map entry_key es) (x ∷ xs))) up)))
      ] refl

  -- inserting ascending items one after the other gives a list that ascends strictly
  pub insert_all-strictly : (xs : List T) → IsSorted cmp xs → AscendsStrictly cmp (insert_all eq [] (map (own_element feeds) xs))
  unfolding AreOwnEntries
  insert_all-strictly xs up = inserted [] xs (λ k d inside. absurd (omega arith)) (λ j k d below inside. absurd (omega arith)) (rises xs up)

-- a vector's items, inserted into an empty list
pub extended : {T Z : Type 0} (eq : T → T → Bool) (feeds : T → HashWrites) (it : IntoIter T Z) (vec xs : List T) (old new : Elements T)
    → into_iter_items it ≡ vec → into_iter_len it ≡ length vec → Drains into_iter_steps it xs → old ≡ [] → new ≡ insert_all eq old (map (own_element feeds) xs)
    → new ≡ insert_all eq [] (map (own_element feeds) vec)
extended eq feeds it vec xs old new are long drained empty put =
    let (u, (t, gave, end)) = drained in
    cc (sym (map-id xs) ∙ items_from_drains xs (t, gave, λ _. (u, end)) (YieldsList-from_vec vec are long))
