-- A write of the value at one index, from the writes in the columns.
use Rattle.starlark_hash.proofs.Common.{◌≡◌, ℕ, zero, suc, List, [], ◌∷◌, map, slice_get, Some, refl, ap}
use Rattle.starlark_hash.specs.Entries.{set_value_at}
use Rattle.starlark_vec2.specs.PairList.{firsts_of, seconds_of}
use Rattle.starlark_vec2.specs.Lend.{set_first_at}
use Rattle.starlark_vecmap.specs.EntryList.{entry_of}

module _ {K V : Type 0} where
  -- writing a pair with its own key is writing its value
  pub value_written : (ps : List ((K × V) × ℕ)) (i : ℕ) (pair : K × V) (w : V) → slice_get (firsts_of ps) i ≡ Some pair
      → map entry_of (set_first_at ps i (pair.0, w)) ≡ set_value_at (map entry_of ps) i w
  value_written [] i pair w e = refl
  value_written (p ∷ ps) zero pair w e =
      let same : pair ≡ p.0 = cc in ap (λ k. entry_of ((k, w), p.1) ∷ map entry_of ps) (ap (λ x. x.0) same)
  value_written (p ∷ ps) (suc i) pair w e = ap (λ l. entry_of p ∷ l) (value_written ps i pair w e)

  -- the entry at an index, from the pair and the hash there
  pub entry_read : (ps : List ((K × V) × ℕ)) (i : ℕ) (pair : K × V) (hash : ℕ) → slice_get (firsts_of ps) i ≡ Some pair → slice_get (seconds_of ps) i ≡ Some hash
      → slice_get (map entry_of ps) i ≡ Some (entry_of (pair, hash))
  entry_read [] i pair hash e f = cc
  entry_read (p ∷ ps) zero pair hash e f =
      let first : p.0 ≡ pair = cc in let second : p.1 ≡ hash = cc in (λ j. Some (entry_of (first j, second j)))
  entry_read (p ∷ ps) (suc i) pair hash e f = entry_read ps i pair hash e f
