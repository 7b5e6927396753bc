-- The value `()` of a set's elements, which adds nothing to comparisons, hashes, clones and iterators.
use Rattle.std.specs.Prelude.{◌≡◌, Bool, true, List, [], Option}
use Rattle.std.proofs.Common.{refl}
use Rattle.std.specs.Borrow.{Bor}
use Rattle.std.specs.Cmp.{IsEquivalence, IsPartialEquivalence, IsTotalOrder}
use Rattle.std.specs.Hash.{HashWrites}
use Rattle.std.specs.declared.cmp.Ordering.{Ordering}
use Rattle.std.specs.declared.cmp.Ordering.TheVariants.{Equal}
use Rattle.starlark_hash.specs.declared.hashed.Hashed.{Hashed}
use Rattle.starlark_hash.specs.HashValue.{hashed, hash_of, key_of}
use Rattle.starlark_hash.specs.Entries.{Entry}
use Rattle.starlark_hash.specs.Compare.{ordered_feed}
use Rattle.std.specs.Option.{option_map}

-- whether two `()` are equal; any two are
abbrev pub same_unit : Unit {0} → Unit {0} → Bool
same_unit x y = true

-- the order of `()`: neither is less
abbrev pub unit_cmp : Unit {0} → Unit {0} → Ordering
unit_cmp x y = Equal

-- a clone of `()` is `()`
abbrev pub IsUnitClone : Unit {0} → Unit {0} → Type 0
IsUnitClone x y = y ≡ x

-- equality of `()` is an equivalence
pub unit_equiv : IsEquivalence same_unit
unit_equiv = record { refl = λ x. refl; symm = λ x y. refl; congr = λ x y z e. refl }

-- equality of `()` is symmetric and transitive
pub unit_per : IsPartialEquivalence same_unit
unit_per = record { symm = λ x y. refl; trans = λ x y z a b. refl }

-- the order of `()` is total
pub unit_total : IsTotalOrder unit_cmp
unit_total = record { antisymm = λ x y. refl; trans = λ x y z a b. a; congr = λ x y z e. refl }

module _ {T : Type 0} where
  -- what a set feeds to a hasher: the hash of each element as one number of 32 bits, and no length
  abbrev pub set_feed : List (Entry T (Unit {0})) → HashWrites
  set_feed es = ordered_feed (λ _. []) es

  -- the key that a `Hashed<&T>` points to, with its hash
  abbrev pub deref_hashed : Hashed (Bor T) → Hashed T
  deref_hashed h = hashed (hash_of h) (key_of h).now

-- a step of an iterator that pairs each item with `()`, which is how a set inserts it into its map
abbrev pub StepsBeside : {S A : Type 0} → (S → Option A → S → Type 0) → S → Option (A × Unit {0}) → S → Type 0
StepsBeside steps s r t = steps s (option_map (λ p. p.0) r) t
