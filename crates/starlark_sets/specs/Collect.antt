-- Sets of an iterator's items.
use Rattle.std.specs.Prelude.{◌≡◌, ◌≤◌, ◌||◌, [], Bool, false, Option, length, map}
use Rattle.std.specs.Hash.{HashWrites}
use Rattle.std.specs.Iterator.{Count}
use Rattle.std.specs.Iterator.Runs.{WholeRun}
use Rattle.std.specs.Set.{is_member}
use Rattle.starlark_hash.specs.declared.hashed.Hashed.{Hashed}
use Rattle.starlark_hash.specs.Entries.{Entry}
use Rattle.starlark_small.specs.Lookup.{AreOwn, AreOwnEntries, contains}
use Rattle.starlark_small.specs.Collect.{Collects, insert_all}
use Rattle.starlark_small.specs.Map.{own_hashed}
use Rattle.starlark_sets.specs.Set.{Set}

module _ {T : Type 0} where
  -- an element with its hash, as a set's entry
  abbrev pub element_entry : Hashed T → Entry T (Unit {0})
  element_entry element = (element, tt)

  -- an element under its own hash, as a set's entry
  abbrev pub own_element : (T → HashWrites) → T → Entry T (Unit {0})
  own_element feeds element = element_entry (own_hashed feeds element)

module _ {T S U : Type 0} (eq : T → T → Bool) (feeds : T → HashWrites) (steps : S → Option T → S → Type 0) (becomes : U → S → Type 0) (iter : U) where
  -- the set has each of the iterator's items, and each element that it had before. The definition speaks of a run, like the kit's
  -- clauses on iterators, so that callers' proofs find the items
  abbrev pub HasEach : (T → Bool) → Set T → Type 0
  HasEach before s = (it : S) × becomes iter it × WholeRun steps it (λ p. (element : T) → contains eq feeds s element ≡ (before element || is_member eq p.items element))

module _ {T S U : Type 0} (eq : T → T → Bool) (feeds : T → HashWrites) (steps : S → Option T → S → Type 0) (becomes : U → S → Type 0) (remaining : S → Count) (iter : U) where
  -- the set was made of the iterator's items, inserted in their order, each under its own hash
  pub record IsSetOf (s : Set T) : Type 0 where
    pub found : HasEach eq feeds steps becomes iter (λ _. false) s
    pub set : Collects eq (own_element feeds) steps becomes remaining iter s
    pub own : AreOwn feeds s

-- the set has no more elements than the iterator has items
abbrev pub HasNoMore : {T A S U : Type 0} → (S → Option A → S → Type 0) → (U → S → Type 0) → U → Set T → Type 0
HasNoMore {T} {A} {S} {U} steps becomes iter s = (it : S) × becomes iter it × WholeRun steps it (λ p. length s.entries ≤ length p.items)

-- the set has the iterator's elements, inserted in their order
abbrev pub InsertsEach : {T S U : Type 0} → (T → T → Bool) → (S → Option (Hashed T) → S → Type 0) → (U → S → Type 0) → U → Set T → Type 0
InsertsEach {T} {S} {U} eq steps becomes iter s = (it : S) × becomes iter it × WholeRun steps it (λ p. s.entries ≡ insert_all eq [] (map element_entry p.items))

-- if the iterator's elements are under their own hashes, the set's elements are too
abbrev pub KeepsOwn : {T S U : Type 0} → (S → Option (Hashed T) → S → Type 0) → (U → S → Type 0) → U → Set T → Type 0
KeepsOwn {T} {S} {U} steps becomes iter s = (it : S) × becomes iter it × WholeRun steps it (λ p. (feeds : T → HashWrites) → AreOwnEntries feeds (map element_entry p.items) → AreOwn feeds s)
