-- A difference and a union of lists without repetitions have no repetitions.
use Rattle.starlark_hash.proofs.Common.{◌≡◌, ℕ, ◌-◌, ◌<◌, Bool, true, false, ◌++◌, length, get_or, List, ◌∙◌, arith, length-append, IsEquivalence, get_or_append_left}
use Rattle.std.specs.Prelude.{AllPairs}
use Rattle.std.proofs.lemmas.Bool.{cases_order}
use Rattle.std.proofs.lemmas.List.{get_or-append_right}
use Rattle.std.proofs.lemmas.List.Elements.{All-get_or, filter_passes}
use Rattle.starlark_hash.specs.Entries.{IsSingle, entry_hash, entry_key, stands_under}
use Rattle.starlark_hash.proofs.PositionLemmas.{position-None}
use Rattle.starlark_small.specs.CompareLaws.{alike-laws}
use Rattle.starlark_sets.specs.Difference.{lacks, difference}
use Rattle.starlark_sets.specs.Set.{Elements}
use Rattle.starlark_sets.specs.Union.{union}
use Rattle.starlark_sets.proofs.Differences.{IsSingle-filter}

-- a test that fails on each two items of either list, and on one of each, fails on each two items of the lists appended
pairs_append : {X : Type 0} (p : X → X → Bool) (xs ys : List X) → AllPairs (λ x y. p x y ≡ false) xs → AllPairs (λ x y. p x y ≡ false) ys
    → ((i j : ℕ) (d : X) → i < length xs → j < length ys → p (get_or xs i d) (get_or ys j d) ≡ false) → AllPairs (λ x y. p x y ≡ false) (xs ++ ys)
pairs_append p xs ys first second across i j d below inside =
    let left = get_or_append_left xs ys d in let right = get_or-append_right xs ys (length xs) in let order = λ (k : ℕ). cases_order k (length xs) in
    grind (arith, left i, left j, right i d, right j d, length-append xs ys, order j, order i, first i j d below, second (i - length xs) (j - length xs) d, across i (j - length xs) d)

module _ {T : Type 0} (eq : T → T → Bool) where
  -- a difference has no two elements with one hash that are equal
  pub IsSingle-difference : (es fs : Elements T) → IsSingle eq es → IsSingle eq (difference eq es fs)
  IsSingle-difference es fs single = IsSingle-filter eq (lacks eq fs) es single

  -- a union has no two elements with one hash that are equal
  pub IsSingle-union : IsEquivalence eq → (es fs : Elements T) → IsSingle eq es → IsSingle eq (difference eq fs es) → IsSingle eq (union eq es fs)
  IsSingle-union laws es fs first second = pairs_append (λ d e. stands_under (entry_hash d) (eq (entry_key d)) e) es (difference eq fs es) first second (λ i j d below inside.
      let y = get_or (difference eq fs es) j d in
      let lacking = All-get_or (λ f. lacks eq es f ≡ true) (difference eq fs es) j d inside (filter_passes (lacks eq es) fs) in
      (alike-laws eq laws).symm (get_or es i d).0 y.0 ∙ position-None (stands_under y.0.hash (eq y.0.key)) es (grind (arith, lacking)) i d below)
