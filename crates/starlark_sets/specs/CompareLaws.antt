-- The laws of the comparisons and of the hash of lists of entries.
use Rattle.std.specs.Prelude.{◌≡◌, Bool, true, false, ◌&&◌, List, [], ◌∷◌, ◌++◌, nat_eq, refl}
use Rattle.std.proofs.Common.{sym, ap, ◌∙◌, true≢false}
use Rattle.std.specs.Hash.{HashWrites, u32}
use Rattle.std.specs.Cmp.{IsEquivalence, IsPartialEquivalence, IsTotalOrder, partial_equiv_from_equiv, on_equiv, and_equiv, on_per, and_per, nat_eq_equiv, nat_cmp_total, on_total, then_total, first_so, second_so, both_tied, unsigned_ties, unsigned_Decides}
use Rattle.std.specs.Cmp.Lexicographic.{pointwise, slice_cmp, lists_equiv, lists_per, lists_total, lists_ties}
use Rattle.std.specs.declared.cmp.Ordering.{Ordering}
use Rattle.std.specs.Ordering.{on, eq_of_both, nat_cmp, eq_by_cmp}
use Rattle.starlark_hash.specs.Entries.{Entry, entry_key, entry_value}
use Rattle.starlark_hash.specs.Compare.{same_entry, same_ordered, ordered_feed}
use Rattle.starlark_sets.specs.Compare.{number_of, pair_cmp, entries_cmp}

module _ {K V : Type 0} {key_eq : K → K → Bool} {value_eq : V → V → Bool} where
  -- equality index by index is an equivalence if those of keys and values are
  pub same_order_equiv : IsEquivalence key_eq → IsEquivalence value_eq → IsEquivalence (same_ordered key_eq value_eq)
  same_order_equiv a b = lists_equiv (and_equiv (on_equiv number_of nat_eq_equiv) (and_equiv (on_equiv entry_key a) (on_equiv entry_value b)))

  -- equality index by index is symmetric and transitive if that of values is
  pub same_order_per : IsEquivalence key_eq → IsPartialEquivalence value_eq → IsPartialEquivalence (same_ordered key_eq value_eq)
  same_order_per a b = lists_per (and_per (on_per number_of (partial_equiv_from_equiv nat_eq_equiv)) (and_per (on_per entry_key (partial_equiv_from_equiv a)) (on_per entry_value b)))

-- a conjunction of two tests, index by index, is the conjunction of both
pointwise-both : {X : Type 0} (E F : X → X → Bool) (xs ys : List X) → pointwise (λ x y. F x y && E x y) xs ys ≡ (pointwise E xs ys && pointwise F xs ys)
pointwise-both E F [] [] = refl
pointwise-both E F [] (y ∷ ys) = refl
pointwise-both E F (x ∷ xs) [] = refl
pointwise-both E F (x ∷ xs) (y ∷ ys) = ap (λ b. (F x y && E x y) && b) (pointwise-both E F xs ys) ∙ shuffled (F x y) (E x y) (pointwise E xs ys) (pointwise F xs ys)
  where
    shuffled : (a b c d : Bool) → ((a && b) && (c && d)) ≡ ((b && c) && (a && d))
    shuffled true true c d = refl
    shuffled true false c d = refl
    shuffled false true true d = refl
    shuffled false true false d = refl
    shuffled false false c d = refl

-- the order of lists of entries is total if those of keys and values are
pub entries_total : {K V : Type 0} {key_cmp : K → K → Ordering} {value_cmp : V → V → Ordering} → IsTotalOrder key_cmp → IsTotalOrder value_cmp → IsTotalOrder (entries_cmp {K = K} {V = V} key_cmp value_cmp)
entries_total a b = then_total (lists_total (then_total (on_total entry_key a) (on_total entry_value b))) (lists_total (on_total number_of nat_cmp_total))

module _ {K V : Type 0} (key_eq : K → K → Bool) (value_eq : V → V → Bool) (key_cmp : K → K → Ordering) (value_cmp : V → V → Ordering) where
  -- lists are equal exactly if the order ties them
  pub entries_ties : ((x y : K) → key_eq x y ≡ eq_by_cmp key_cmp x y) → ((x y : V) → value_eq x y ≡ eq_by_cmp value_cmp x y) → (es fs : List (Entry K V)) → same_ordered key_eq value_eq es fs ≡ eq_by_cmp (entries_cmp key_cmp value_cmp) es fs
  entries_ties a b es fs =
      let pairs : Entry K V → Entry K V → Bool = eq_of_both (on entry_key key_eq) (on entry_value value_eq) in
      let hashes : Entry K V → Entry K V → Bool = on number_of nat_eq in
      pointwise-both pairs hashes es fs
      ∙ both_tied (pointwise pairs es fs) (pointwise hashes es fs) (slice_cmp (pair_cmp key_cmp value_cmp) es fs) (slice_cmp (on number_of nat_cmp) es fs)
      (lists_ties (pair_cmp key_cmp value_cmp) (λ d e. both_tied (key_eq (entry_key d) (entry_key e)) (value_eq (entry_value d) (entry_value e)) (key_cmp (entry_key d) (entry_key e)) (value_cmp (entry_value d) (entry_value e)) (a (entry_key d) (entry_key e)) (b (entry_value d) (entry_value e))) es fs)
      (lists_ties (on number_of nat_cmp) (λ d e. unsigned_ties (number_of d) (number_of e)) es fs)

module _ {K V : Type 0} (key_eq : K → K → Bool) (value_eq : V → V → Bool) (F : V → HashWrites) (alike : (x y : V) → value_eq x y ≡ true → F x ≡ F y) where
  -- equal lists feed alike
  pub feed_alike : (es fs : List (Entry K V)) → same_ordered key_eq value_eq es fs ≡ true → ordered_feed F es ≡ ordered_feed F fs
  feed_alike [] [] h = refl
  feed_alike [] (e ∷ fs) h = absurd (true≢false (sym h))
  feed_alike (d ∷ es) [] h = absurd (true≢false (sym h))
  feed_alike (d ∷ es) (e ∷ fs) h =
      let here : same_entry key_eq value_eq d e ≡ true = first_so (same_entry key_eq value_eq d e) (same_ordered key_eq value_eq es fs) h in
      let later = feed_alike es fs (second_so (same_entry key_eq value_eq d e) (same_ordered key_eq value_eq es fs) h) in
      let hashes : Bool = nat_eq (number_of d) (number_of e) in
      let pair : (key_eq (entry_key d) (entry_key e) && value_eq (entry_value d) (entry_value e)) ≡ true = second_so hashes (key_eq (entry_key d) (entry_key e) && value_eq (entry_value d) (entry_value e)) here in
      let value : F (entry_value d) ≡ F (entry_value e) = alike (entry_value d) (entry_value e) (second_so (key_eq (entry_key d) (entry_key e)) (value_eq (entry_value d) (entry_value e)) pair) in
      let hash : number_of d ≡ number_of e = (unsigned_Decides (number_of d) (number_of e)).0 (first_so hashes (key_eq (entry_key d) (entry_key e) && value_eq (entry_value d) (entry_value e)) here) in
      λ i. (u32 (hash i) ++ value i) ++ later i
