-- What an insertion and a removal make of a list of pairs: by look-ups, and of its length.
use Rattle.starlark_hash.proofs.Common.{◌≡◌, ◌+◌, ℕ, Bool, false, cond, List, [], ◌∷◌, ◌++◌, Option, Some, None, IfSome, get_or_from_slice_get, refl, remove, slice_get, slice_get-map, slice_get_within, sym, ap, ◌∙◌, subst, arith, common_steps, is_some, length, if◌then◌else◌, inl, inr, zero, suc, option_map}
use Rattle.std.specs.Cmp.{IsEquivalence}
use Rattle.std.specs.List.{IsDistinct}
use Rattle.std.specs.Map.{IsKeyTest, KeepsOthers, keys_of, lookup, remove_entry, set_value}
use Rattle.std_collections.specs.Layout.Columns.{set_value_at}
use Rattle.std_collections.proofs.Entries.{at_others, lookup-remove_entry, lookup-remove_entry_apart, lookup-remove_entry_same, lookup-set_value, lookup-set_value_apart, lookup-set_value_same, keys-set_value, length-set_value}
use Rattle.std_collections.proofs.HashLookup.{IsAbsent, IsFirst, IsFirst-from_index, IsFirst-or_none, Updated, Updated-push, Updated-set}
use Rattle.starlark_dict.specs.Dict.{Dict, insert_entry, UpdatesBy, WritesThrough, memory, room}

module _ {K V : Type 0} (eq : K → K → Bool) (k : K) (v : V) where
  pub insert_entry-first : (es : List (K × V)) (i : ℕ) → IsFirst (eq k) es i → insert_entry eq es k v ≡ set_value_at es i v
  insert_entry-first [] i h = absurd h
  insert_entry-first (e ∷ es) zero h = ap (λ b. if b then (e.0, v) ∷ es else e ∷ insert_entry eq es k v) h
  insert_entry-first (e ∷ es) (suc i) h =
      ap (λ b. if b then (e.0, v) ∷ es else e ∷ insert_entry eq es k v) h.0 ∙ ap (λ l. e ∷ l) (insert_entry-first es i h.1)

  pub insert_entry-absent : (es : List (K × V)) → IsAbsent (eq k) es → insert_entry eq es k v ≡ es ++ (k, v) ∷ []
  insert_entry-absent [] h = refl
  insert_entry-absent (e ∷ es) h =
      ap (λ b. if b then (e.0, v) ∷ es else e ∷ insert_entry eq es k v) h.0 ∙ ap (λ l. e ∷ l) (insert_entry-absent es h.1)

  pub length-insert_entry : (es : List (K × V)) → length (insert_entry eq es k v) ≡ length es + (if is_some (lookup (eq k) es) then 0 else 1)
  length-insert_entry [] = omega arith
  length-insert_entry (e ∷ es) = grind (arith, common_steps, length-insert_entry es)

  -- by look-ups
  pub updated-inserted : IsEquivalence eq → (old new : List (K × V)) → new ≡ insert_entry eq old k v
      → ((q : K) → lookup (eq q) new ≡ cond (eq k q) (Some v) (lookup (eq q) old)) × (lookup (eq k) new ≡ Some v) × ((q : K) → eq k q ≡ false → lookup (eq q) new ≡ lookup (eq q) old) × KeepsOthers eq (eq k) old new
  updated-inserted laws old new put = elim (IsFirst-or_none (eq k) old) [
    | inl a ↦ subst (λ l. Updated eq laws (eq k) old l (Some v)) (sym (put ∙ insert_entry-absent old a)) (Updated-push eq laws old k v a)
    | inr f ↦ subst (λ l. Updated eq laws (eq k) old l (Some v)) (sym (put ∙ insert_entry-first old f.0 f.1)) (Updated-set eq laws (eq k) (laws.congr k) old f.0 v f.1)
  ]

module _ {K V : Type 0} (eq : K → K → Bool) (laws : IsEquivalence eq) (test : K → Bool) (one : IsKeyTest eq test) where
  pub length-remove_entry : (es : List (K × V)) → length (remove_entry test es) + (if is_some (lookup test es) then 1 else 0) ≡ length es
  length-remove_entry [] = omega arith
  length-remove_entry (e ∷ es) = grind (arith, common_steps, length-remove_entry es)

  pub length-removed : (old new : List (K × V)) → new ≡ remove_entry test old → (r : Option V) → r ≡ lookup test old → length new + (if is_some r then 1 else 0) ≡ length old
  length-removed old new is r found = rw (is, found) (length-remove_entry old)

  pub length-removed_entry : (old new : List (K × V)) → new ≡ remove_entry test old → (r : Option (K × V)) → option_map (λ p. p.1) r ≡ lookup test old → length new + (if is_some r then 1 else 0) ≡ length old
  length-removed_entry old new is None found = length-removed old new is None found
  length-removed_entry old new is (Some p) found = length-removed old new is (Some p.1) found

  pub updated-removed : (es : List (K × V)) → IsDistinct eq (keys_of es) → (d e : Dict K V) → d.entries ≡ es → e.entries ≡ remove_entry test es → UpdatesBy eq test d e None
  unfolding KeepsOthers
  updated-removed es unique d e was is = rw (was, is) (
    λ q. lookup-remove_entry laws test one q es unique,
    lookup-remove_entry_same laws test one es unique,
    at_others test (λ q. lookup (eq q) es) (λ q. lookup (eq q) (remove_entry test es)) None (λ q. lookup-remove_entry laws test one q es unique),
    λ other is apart. lookup-remove_entry_apart test other apart es,
  )

  removed-first : (es : List (K × V)) (i : ℕ) → IsFirst test es i → remove_entry test es ≡ remove es i
  removed-first [] i h = absurd h
  removed-first (e ∷ es) zero h = ap (λ b. cond b es (e ∷ remove_entry test es)) h
  removed-first (e ∷ es) (suc i) h = ap (λ b. cond b es (e ∷ remove_entry test es)) h.0 ∙ ap (λ l. e ∷ l) (removed-first es i h.1)

  pub updated-written : (old new : Dict K V) (w : V) → new.entries ≡ set_value test old.entries w → memory new ≡ memory old → room new ≡ room old → IsDistinct eq (keys_of old.entries) → WritesThrough eq test old w new
  unfolding KeepsOthers
  updated-written old new w put kept spare unique = rw put (
    refl,
    keys-set_value test old.entries w,
    length-set_value test old.entries w,
    λ there. (
      λ q. lookup-set_value laws test one q w old.entries there,
      lookup-set_value_same test old.entries w there,
      at_others test (λ q. lookup (eq q) old.entries) (λ q. lookup (eq q) (set_value test old.entries w)) (Some w) (λ q. lookup-set_value laws test one q w old.entries there),
      λ other is apart. lookup-set_value_apart test other apart old.entries w,
    ),
    subst (IsDistinct eq) (sym (keys-set_value test old.entries w)) unique,
    kept,
    spare,
  )

-- what a removal at an index leaves, by look-ups, and how many
module _ {K V : Type 0} (eq : K → K → Bool) (laws : IsEquivalence eq) (es : List (K × V)) (unique : IsDistinct eq (keys_of es)) (i : ℕ) where
  pub updated-taken : (d e : Dict K V) → d.entries ≡ es → e.entries ≡ remove es i → (r : Option (K × V)) → r ≡ slice_get es i → IfSome r (λ p. UpdatesBy eq (eq p.0) d e None)
  updated-taken d e was is None at = tt
  updated-taken d e was is (Some p) at =
      let key = slice_get-map (λ (q : K × V). q.0) es i ∙ ap (option_map (λ (q : K × V). q.0)) (sym at) in
      let passes = ap (eq p.0) (get_or_from_slice_get (keys_of es) i p.0 p.0 key) ∙ laws.refl p.0 in
      let first = IsFirst-from_index eq laws (eq p.0) (laws.congr p.0) es i p.0 unique (slice_get_within es i p (sym at)) passes in
      updated-removed eq laws (eq p.0) (laws.congr p.0) es unique d e was (is ∙ sym (removed-first eq laws (eq p.0) (laws.congr p.0) es i first))
