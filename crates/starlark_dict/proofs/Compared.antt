-- Comparisons and hashes of entries under own hashes, as those of their pairs.
use Rattle.starlark_hash.proofs.Common.{[], ◌++◌, ◌&&◌, ◌∙◌, ◌∷◌, ◌≡◌, All-head, All-tail, Bool, HashWrites, IsEquivalence, IsTrue, List, ap, arith, common_steps, length, list_all, lookup, map, nat_eq, nat_tests, option_eq, refl, sym, true}
use Rattle.std.specs.HashMap.{IsUnique, hash_map_eq}
use Rattle.std.specs.HashMap.Eq.{get_from_hash_map_eq, hash_map_eq_from_get}
use Rattle.std.specs.Cmp.{both_ways}
use Rattle.std_collections.proofs.HashMapEq.{unequal_len}
use Rattle.starlark_hash.specs.Compare as entries
use Rattle.starlark_hash.specs.Entries.{Entry, entry_hash, entry_key, pair_of}
use Rattle.starlark_hash.specs.Hasher.{own_hash}
use Rattle.starlark_hash.specs.HashValue.{hashed}
use Rattle.starlark_hash.specs.Lookup.{found}
use Rattle.starlark_small.specs.Compare.{agree_at, same_entries}
use Rattle.starlark_small.specs.CompareLaws.{alike, alike-laws, as_map, as_maps, value_at-lookup}
use Rattle.starlark_small.specs.Lookup.{AreOwn, AreOwnEntries}
use Rattle.starlark_small.specs.Map.{Map, own_hashed}
use Rattle.starlark_dict.specs.Compare.{ordered_feed, same_ordered}
use Rattle.starlark_dict.specs.Dict.{dict_of}
use Rattle.starlark_dict.proofs.OwnPairs.{found-own, length-pairs, same_hash}

module _ {K V : Type 0} (eq : K → K → Bool) (feeds : K → HashWrites) (feeds_alike : (x y : K) → IsTrue (eq x y) → feeds x ≡ feeds y) (E : V → V → Bool) where
  abbrev is_own : Entry K V → Type 0
  is_own e = entry_hash e ≡ own_hash feeds (entry_key e)

  same_one : (d e : Entry K V) → is_own d → is_own e → entries.same_entry eq E d e ≡ (eq (entry_key d) (entry_key e) && E d.1 e.1)
  same_one d e mine theirs = grind (arith, nat_tests, common_steps, mine, theirs, same_hash eq feeds feeds_alike (entry_key d) (entry_key e))

  pub pairs-same_ordered : (ds es : List (Entry K V)) → AreOwnEntries feeds ds → AreOwnEntries feeds es → entries.same_ordered eq E ds es ≡ same_ordered eq E (map pair_of ds) (map pair_of es)
  unfolding AreOwnEntries
  pairs-same_ordered [] [] mine theirs = refl
  pairs-same_ordered [] (e ∷ es) mine theirs = refl
  pairs-same_ordered (d ∷ ds) [] mine theirs = refl
  pairs-same_ordered (d ∷ ds) (e ∷ es) mine theirs =
      λ i. same_one d e (All-head is_own d ds mine) (All-head is_own e es theirs) i && pairs-same_ordered ds es (All-tail is_own d ds mine) (All-tail is_own e es theirs) i

  module _ (laws : IsEquivalence eq) (m n : Map K V) (mine : AreOwn feeds m) (theirs : AreOwn feeds n) where
    abbrev agree : K → Bool
    agree q = option_eq E (lookup (eq q) (map pair_of m.entries)) (lookup (eq q) (map pair_of n.entries))

    agree-own : (q : K) → agree_at eq E m.entries n.entries (own_hashed feeds q) ≡ agree q
    unfolding found
    agree-own q = λ i. option_eq E (found-own feeds (eq q) (own_hash feeds q) (same_hash eq feeds feeds_alike q) m.entries mine i) (found-own feeds (eq q) (own_hash feeds q) (same_hash eq feeds feeds_alike q) n.entries theirs i)

    all-agree : ((q : K) → agree q ≡ true) → (es : List (Entry K V)) → AreOwnEntries feeds es → list_all (λ e. agree_at eq E m.entries n.entries e.0) es ≡ true
    unfolding AreOwnEntries
    all-agree each [] own = refl
    all-agree each (e ∷ es) own =
        λ i. (ap (λ h. agree_at eq E m.entries n.entries (hashed h (entry_key e))) (All-head is_own e es own) ∙ agree-own (entry_key e) ∙ each (entry_key e)) i && all-agree each es (All-tail is_own e es own) i

    there : same_entries eq E m.entries n.entries ≡ true → hash_map_eq eq E (dict_of m) (dict_of n) ≡ true
    there same = hash_map_eq_from_get eq E (dict_of m) (dict_of n) (λ q.
        sym (agree-own q) ∙ (λ i. option_eq E (value_at-lookup eq m.entries (own_hashed feeds q) i) (value_at-lookup eq n.entries (own_hashed feeds q) i))
        ∙ get_from_hash_map_eq (alike eq) E (alike-laws eq laws) (as_map m.entries) (as_map n.entries) (as_maps eq E m.entries n.entries same) (own_hashed feeds q))

    back : IsUnique eq (dict_of m) → IsUnique eq (dict_of n) → hash_map_eq eq E (dict_of m) (dict_of n) ≡ true → same_entries eq E m.entries n.entries ≡ true
    back um un same =
        let each = get_from_hash_map_eq eq E laws (dict_of m) (dict_of n) same in
        let long : nat_eq (length m.entries) (length n.entries) ≡ true = grind (arith, nat_tests, same, length-pairs m.entries, length-pairs n.entries, unequal_len eq laws E (dict_of m) (dict_of n) um un) in
        λ i. long i && (all-agree each m.entries mine i && all-agree each n.entries theirs i)

    -- two maps have the same entries where their pairs are equal as maps
    pub pairs-same : IsUnique eq (dict_of m) → IsUnique eq (dict_of n) → same_entries eq E m.entries n.entries ≡ hash_map_eq eq E (dict_of m) (dict_of n)
    pairs-same um un = both_ways _ _ there (back um un)

-- what is fed of entries under their own hashes
pub pairs-feed : {K V : Type 0} (feeds : K → HashWrites) (values : V → HashWrites) (es : List (Entry K V)) → AreOwnEntries feeds es → entries.ordered_feed values es ≡ ordered_feed feeds values (map pair_of es)
unfolding AreOwnEntries
pairs-feed feeds values [] own = refl
pairs-feed {K} {V} feeds values (e ∷ es) own =
    let is : Entry K V → Type 0 = λ d. entry_hash d ≡ own_hash feeds (entry_key d) in
    ap (λ h. entries.entry_feed values (hashed h (entry_key e), e.1) ++ entries.ordered_feed values es) (All-head is e es own)
    ∙ ap (λ l. entries.entry_feed values (hashed (own_hash feeds (entry_key e)) (entry_key e), e.1) ++ l) (pairs-feed feeds values es (All-tail is e es own))
