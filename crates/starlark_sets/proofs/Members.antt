-- The members of a difference and of a union, whose elements are under their own hashes.
use Rattle.starlark_hash.proofs.Common.{◌≡◌, Bool, true, [], ◌∷◌, map, is_some, refl, sym, ap, ◌∙◌, arith, ◌&&◌, ◌||◌, not, IsEquivalence, HashWrites, All, is_member, map-append, All-filter, All-head, All-tail, nat_tests}
use Rattle.std.specs.List.{list_any}
use Rattle.std.proofs.lemmas.List.Folds.{list_any-append}
use Rattle.std.proofs.lemmas.Map.Views.{any-filter_same}
use Rattle.starlark_hash.specs.Hasher.{own_hash}
use Rattle.starlark_hash.specs.HashValue.{hashed}
use Rattle.starlark_hash.specs.Entries.{Entry, entry_hash, entry_key, stands_under}
use Rattle.starlark_hash.specs.Lookup.{found}
use Rattle.starlark_small.specs.Lookup.{AreOwnEntries}
use Rattle.starlark_small.proofs.CallerLookup.{is_some-found}
use Rattle.starlark_sets.specs.Difference.{difference, lacks}
use Rattle.starlark_sets.specs.Set.{Elements}
use Rattle.starlark_sets.specs.Union.{union}
use Rattle.starlark_sets.proofs.Differences.{found_any, lacks_alike}

module _ {T : Type 0} (eq : T → T → Bool) (laws : IsEquivalence eq) (feeds : T → HashWrites) (alike : (x y : T) → eq x y ≡ true → feeds x ≡ feeds y) where
  -- whether the element is there under its own hash
  abbrev has : Elements T → T → Bool
  has es q = is_some (found (eq q) (own_hash feeds q) es)

  abbrev is_own : Entry T (Unit {0}) → Type 0
  is_own e = entry_hash e ≡ own_hash feeds (entry_key e)

  -- an element under its own hash passes exactly if it is equal
  stands_own : (q : T) (e : Entry T (Unit {0})) → is_own e → stands_under (own_hash feeds q) (eq q) e ≡ eq q (entry_key e)
  stands_own q e own = grind (arith, nat_tests, own, alike q (entry_key e))

  -- a look-up under the own hash finds something exactly if some element passes
  has_any : (es : Elements T) (q : T) → has es q ≡ list_any (stands_under (own_hash feeds q) (eq q)) es
  has_any es q = sym (is_some-found (eq q) (own_hash feeds q) es) ∙ found_any (stands_under (own_hash feeds q) (eq q)) es

  any_member : (es : Elements T) → All is_own es → (q : T) → list_any (stands_under (own_hash feeds q) (eq q)) es ≡ is_member eq (map entry_key es) q
  any_member [] own q = refl
  any_member (e ∷ es) own q = λ i. stands_own q e (All-head is_own e es own) i || any_member es (All-tail is_own e es own) q i

  -- a difference has what the one has and the other lacks
  pub members-difference : (es fs : Elements T) → AreOwnEntries feeds es → (q : T) → is_member eq (map entry_key (difference eq es fs)) q ≡ (has es q && not (has fs q))
  unfolding AreOwnEntries
  members-difference es fs own q =
      let member = any_member (difference eq es fs) (All-filter (lacks eq fs) is_own es own) q in
      let kept = any-filter_same (stands_under (own_hash feeds q) (eq q)) (lacks eq fs) (not (has fs q)) (λ e same. lacks_alike eq laws fs (hashed (own_hash feeds q) q) e same ∙ ap not (is_some-found (eq q) (own_hash feeds q) fs)) es in
      let there = has_any es q in
      grind arith

  -- a union has what either has
  pub members-union : (es fs : Elements T) → AreOwnEntries feeds es → AreOwnEntries feeds fs → (q : T) → is_member eq (map entry_key (union eq es fs)) q ≡ (has es q || has fs q)
  unfolding AreOwnEntries
  members-union es fs mine theirs q =
      ap (λ l. is_member eq l q) (map-append entry_key es (difference eq fs es))
      ∙ list_any-append (eq q) (map entry_key es) (map entry_key (difference eq fs es))
      ∙ ap (λ b. b || is_member eq (map entry_key (difference eq fs es)) q) (sym (has_any es q ∙ any_member es mine q))
      ∙ grind (arith, members-difference fs es theirs q)
