-- Lists of elements without those of another list.
use Rattle.starlark_hash.proofs.Common.{◌≡◌, suc, ◌+◌, ◌-◌, ◌≤◌, Bool, true, false, not, List, ◌∷◌, [], ◌++◌, length, map, position, is_some, refl, sym, ap, arith, length-append, filter, ◌||◌, IsEquivalence, keys_of, is_member, length-map}
use Rattle.std.specs.List.{list_any}
use Rattle.std.proofs.lemmas.List.Filters.{length-filter_both}
use Rattle.std.proofs.lemmas.List.Kept.{AllPairs-filter}
use Rattle.std.proofs.lemmas.Map.Made.{length-le_from_is_member}
use Rattle.std.proofs.lemmas.Map.Views.{any-filter_same}
use Rattle.starlark_hash.specs.declared.hashed.Hashed.{Hashed}
use Rattle.starlark_hash.specs.Entries.{Entry, IsSingle, entry_hash, entry_key, match_of, stands_under}
use Rattle.starlark_hash.proofs.PositionLemmas.{position-cons}
use Rattle.starlark_small.specs.CompareLaws.{alike, alike-laws}
use Rattle.starlark_small.proofs.CallerLookup.{is_some-found}
use Rattle.starlark_small.proofs.SameEntries.{distinct}
use Rattle.starlark_sets.specs.Difference.{lacks, difference, past}
use Rattle.starlark_sets.specs.Set.{Elements}
use Rattle.starlark_sets.specs.Union.{CountsEither}

-- a search finds something exactly if an item passes
pub found_any : {X : Type 0} (p : X → Bool) (xs : List X) → is_some (position p xs) ≡ list_any p xs
found_any p [] = refl
found_any p (x ∷ xs) = grind (arith, position-cons p x xs, found_any p xs)

any_key : {K V : Type 0} (p : K → Bool) (es : List (K × V)) → list_any p (map (λ e. e.0) es) ≡ list_any (λ e. p e.0) es
any_key p [] = refl
any_key p (e ∷ es) = ap (λ b. p e.0 || b) (any_key p es)

module _ {T : Type 0} (eq : T → T → Bool) where
  -- the tail of a list without repetitions has none
  pub IsSingle-tail : (es : Elements T) (e : Entry T (Unit {0})) (fs : Elements T) → es ≡ e ∷ fs → IsSingle eq es → IsSingle eq fs
  IsSingle-tail es e fs is single i j d below inside = let s = rw is at single in s (suc i) (suc j) d (omega arith) (omega arith)

  -- a list without repetitions that is filtered has none
  pub IsSingle-filter : (p : Entry T (Unit {0}) → Bool) (es : Elements T) → IsSingle eq es → IsSingle eq (filter p es)
  IsSingle-filter p es single = AllPairs-filter (λ d e. stands_under (entry_hash d) (eq (entry_key d)) e ≡ false) p es single

  module _ (laws : IsEquivalence eq) where
    -- an element with the hash of one that is lacking, and equal to it, is lacking
    pub lacks_alike : (fs : Elements T) (q : Hashed T) (e : Entry T (Unit {0})) → alike eq q e.0 ≡ true → lacks eq fs e ≡ not (is_some (match_of eq fs q))
    lacks_alike fs q e like = λ i. not (is_some (position (λ f. sym ((alike-laws eq laws).congr q e.0 f.0 like) i) fs))

    -- a list without repetitions has no more elements in common with another list than that list has
    lost_le : (es fs : Elements T) → IsSingle eq es → length (filter (λ e. not (lacks eq fs e)) es) ≤ length fs
    lost_le es fs single =
        let lost = λ (e : Entry T (Unit {0})). not (lacks eq fs e) in
        let there : (q : Hashed T) → is_member (alike eq) (keys_of (filter lost es)) q ≡ true → is_member (alike eq) (keys_of fs) q ≡ true = λ q has.
        let same = any-filter_same (λ e. alike eq q e.0) lost (not (not (is_some (match_of eq fs q)))) (λ e like. ap not (lacks_alike fs q e like)) es in
        grind (arith, any_key (alike eq q) fs, found_any (λ f. alike eq q f.0) fs, same, any_key (alike eq q) (filter lost es), has) in
        let le = length-le_from_is_member (alike-laws eq laws) (keys_of (filter lost es)) (keys_of fs) (distinct eq (filter lost es) (IsSingle-filter lost es single)) there in
        omega (arith, le, length-map (filter lost es) (λ e. e.0), length-map fs (λ e. e.0))

  -- each element is in the difference or in the other list
  kept_and_lost : (es fs : Elements T) → length (difference eq es fs) + length (filter (λ e. not (lacks eq fs e)) es) ≡ length es
  kept_and_lost es fs = length-filter_both (lacks eq fs) (λ e. not (lacks eq fs e)) (λ e. refl) es

  -- a difference removes at most as many elements as the other list has
  pub length-difference : IsEquivalence eq → (es fs : Elements T) → IsSingle eq es → length es - length fs ≤ length (map entry_key (difference eq es fs))
  length-difference laws es fs single = simp length-map (omega (arith, lost_le laws es fs single, kept_and_lost es fs))

  pub length-difference-le : (es fs : Elements T) → length (map entry_key (difference eq es fs)) ≤ length es
  length-difference-le es fs = simp length-map (omega (arith, kept_and_lost es fs))

  -- a union has at most as many elements as both lists together
  pub length-union-le : (es fs ds : Elements T) → length (map entry_key (es ++ difference eq fs ds)) ≤ length es + length fs
  length-union-le es fs ds = simp (length-map, length-append) (omega (arith, kept_and_lost fs ds))

  -- a union has at most the sum of both lengths, and at least each of them
  pub counts-union : IsEquivalence eq → (es fs : Elements T) → IsSingle eq fs → CountsEither (length es) (length fs) (length (map entry_key (es ++ difference eq fs es)))
  counts-union laws es fs single =
      let all : length (map entry_key (es ++ difference eq fs es)) ≡ length es + length (difference eq fs es) = simp (length-map, length-append) in
      record {
        most = length-union-le es fs es;
        all_of_first = omega arith;
        all_of_second = omega (arith, lost_le laws fs es single, kept_and_lost fs es);
      }

  -- an element that is in the other list is passed over
  pub passed : (first es : Elements T) (e : Entry T (Unit {0})) (fs other : Elements T) → es ≡ e ∷ fs → lacks eq other e ≡ false
      → (difference eq es other ≡ difference eq first other) × (past (lacks eq other) es ≡ past (lacks eq other) first)
      → (difference eq fs other ≡ difference eq first other) × (past (lacks eq other) fs ≡ past (lacks eq other) first)
  passed first es e fs other is not_lacking before = grind arith

  -- the first element that is lacking is the first of the difference
  pub reached : (es : Elements T) (e : Entry T (Unit {0})) (fs other : Elements T) → es ≡ e ∷ fs → lacks eq other e ≡ true
      → (difference eq es other ≡ e ∷ difference eq fs other) × (past (lacks eq other) es ≡ fs)
  reached es e fs other is lacking = grind arith

pub ruleset differences = (reached, is_some-found)

pub ruleset unions = (length-difference-le)
