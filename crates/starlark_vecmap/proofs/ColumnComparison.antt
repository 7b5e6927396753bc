-- Comparison, order and clones of entries, from those of their columns.
use Rattle.starlark_hash.proofs.Common.{◌≡◌, ℕ, ◌+◌, ◌<◌, Bool, true, false, ◌&&◌, List, [], ◌∷◌, map, length, get_or, refl, ap, arith, MatchBool, nat_eq, AllZip, Ordering, pointwise, length-map, get_or-map, sym, ◌∙◌}
use Rattle.std.specs.Prelude.{IsSortedByKey}
use Rattle.starlark_hash.specs.HashValue.{hash_value}
use Rattle.starlark_hash.specs.Entries.{Entry, entry_key, pair_of}
use Rattle.starlark_hash.specs.Sort.{Ascends}
use Rattle.starlark_vec2.specs.PairList.{firsts_of, seconds_of}
use Rattle.starlark_hash.specs.Clone.{IsPairClone, IsEntryClone}
use Rattle.starlark_vecmap.specs.EntryList.{entry_of}
use Rattle.starlark_hash.specs.Compare.{same_ordered}

module _ {K V : Type 0} (cmp : K → K → Ordering) where
  key_at : (ps : List ((K × V) × ℕ)) (k : ℕ) (d : K × V) (e : Entry K V) → k < length ps → (get_or (firsts_of ps) k d).0 ≡ entry_key (get_or (map entry_of ps) k e)
  key_at ps k d e below = ap (λ p. p.0) (get_or-map (λ p. p.0) ps k (d, 0) d below) ∙ sym (ap entry_key (get_or-map entry_of ps k (d, 0) e below))

  -- the keys ascend in the column of pairs exactly if they do in the entries
  pub ascends-columns : (ps : List ((K × V) × ℕ)) (b : Bool)
      → MatchBool b (IsSortedByKey (λ p. p.0) cmp (firsts_of ps)) (IsSortedByKey (λ p. p.0) cmp (firsts_of ps) → ⊥)
      → MatchBool b (Ascends cmp (map entry_of ps)) (Ascends cmp (map entry_of ps) → ⊥)
  ascends-columns ps true told = λ k d low below.
      let within : k + 1 < length ps = omega (arith, length-map ps entry_of) in
      rw (← key_at ps (k + 1) (pair_of d) d within, ← key_at ps k (pair_of d) d (omega arith)) (told k (pair_of d) low (omega (arith, length-map ps (λ p. p.0))))
  ascends-columns ps false told = λ sorted. told (λ k d low below.
      let within : k + 1 < length ps = omega (arith, length-map ps (λ p. p.0)) in
      rw (key_at ps (k + 1) d (entry_of (d, 0)) within, key_at ps k d (entry_of (d, 0)) (omega arith)) (sorted k (entry_of (d, 0)) low (omega (arith, length-map ps entry_of))))

module _ {K V : Type 0} (key_eq : K → K → Bool) (value_eq : V → V → Bool) where
  -- two lists of entries are the same item by item exactly if both columns are
  pub same_ordered-columns : (ps qs : List ((K × V) × ℕ)) → same_ordered key_eq value_eq (map entry_of ps) (map entry_of qs)
      ≡ pointwise nat_eq (seconds_of ps) (seconds_of qs) && pointwise (λ p q. key_eq p.0 q.0 && value_eq p.1 q.1) (firsts_of ps) (firsts_of qs)
  same_ordered-columns [] [] = refl
  same_ordered-columns [] (q ∷ qs) = refl
  same_ordered-columns (p ∷ ps) [] = refl
  same_ordered-columns (p ∷ ps) (q ∷ qs) = grind (arith, same_ordered-columns ps qs)

module _ {K V : Type 0} (key : K → K → Type 0) (value : V → V → Type 0) where
  -- clones of the pairs with the same hashes are clones of the entries
  pub clones-columns : (ps qs : List ((K × V) × ℕ)) → AllZip (IsPairClone (λ x y. key x.0 y.0 × value x.1 y.1) (λ x y. y ≡ x)) ps qs
      → AllZip (IsEntryClone key value) (map entry_of ps) (map entry_of qs)
  clones-columns [] [] all = all
  clones-columns [] (q ∷ qs) all = all
  clones-columns (p ∷ ps) [] all = all
  clones-columns (p ∷ ps) (q ∷ qs) all = ((ap hash_value all.0.1, all.0.0.0, all.0.0.1), clones-columns ps qs all.1)
