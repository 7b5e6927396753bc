-- What the iterators of a `SmallMap` yield, and what each of them promises: how long the list may be, that it yields as many items as
-- the list has, and that it runs in order from either end. A borrowed list is shorter than 2^63, since each hash takes four bytes.
pub use Rattle.starlark_vecmap.specs.EntryList.{deref_entry}
use Rattle.std.specs.Prelude.{◌≡◌, ℕ, ◌<◌, ◌^◌, AllPairs, Bool, IfSome, IsTrue, List, Some, false, length, slice_get}
use Rattle.std.specs.Hash.{HashWrites}
use Rattle.std.specs.Map.Iter.{deref, ShowsInOrder, ShowsInReverse, GivesInOrder, GivesInReverse}
use Rattle.starlark_hash.specs.Hasher.{own_hash}
use Rattle.starlark_hash.specs.declared.hash_value.StarlarkHashValue.{StarlarkHashValue}
use Rattle.starlark_hash.specs.Entries.{Entry, entry_key}
use Rattle.starlark_hash.specs.Lookup.{found}
use Rattle.starlark_small.specs.Lookup.{AreOwn, AreOwnEntries}
use Rattle.starlark_small.specs.Map.{Map}

-- an iterator that lends each item of the list, and yields these
abbrev pub ShowsEach : {A B C X : Type 0} → List A → List C → (B → X) → Type 0
ShowsEach list shown shows = (length list < 2 ^ 63) × (length shown ≡ length list) × ShowsInOrder shows × ShowsInReverse shows

-- an iterator that gives each item of the list away, and yields these
abbrev pub GivesEach : {A C : Type 0} → List A → List C → Type 0 → Type 0
GivesEach list given X = (length list < 2 ^ 64) × (length given ≡ length list) × GivesInOrder X × GivesInReverse X

module _ {K V : Type 0} (eq : K → K → Bool) (m : Map K V) where
  -- no two keys are equal if each is under its own hash, and if equal keys have equal hashes
  abbrev pub HasDistinctKeys : Type 0
  HasDistinctKeys = (feeds : K → HashWrites) → ((x y : K) → IsTrue (eq x y) → feeds x ≡ feeds y) → AreOwn feeds m → AllPairs (λ d e. eq (entry_key d) (entry_key e) ≡ false) m.entries

module _ {K V : Type 0} (eq : K → K → Bool) (es : List (Entry K V)) where
  -- if each key of the list is under its own hash, this is the key's hash
  abbrev pub IsOwnOf : K → StarlarkHashValue → Type 0
  IsOwnOf key under = (feeds : K → HashWrites) → AreOwnEntries feeds es → under ≡ own_hash feeds key

  -- what a look-up finds is one of these values, and each of them is found: at some key, under some hash
  abbrev pub AreFound : List V → Type 0
  AreFound values = ((under : StarlarkHashValue) (key : K) → IfSome (found (eq key) under es) (λ v. (index : ℕ) × (index < length values) × (slice_get values index ≡ Some v)))
      × ((index : ℕ) → IfSome (slice_get values index) (λ v. (under : StarlarkHashValue) × (key : K) × (found (eq key) under es ≡ Some v) × IsOwnOf key under))

  -- an iterator that lends each value of the list, and yields these, which are those that look-ups find
  abbrev pub ShowsValues : List V → Type 0
  ShowsValues values = (length es < 2 ^ 63) × (length values ≡ length es) × ShowsInOrder (deref {X = V}) × ShowsInReverse (deref {X = V}) × AreFound values

  -- an iterator that gives each value of the list away, and yields these, which are those that look-ups find
  abbrev pub GivesValues : List V → Type 0
  GivesValues values = (length es < 2 ^ 64) × (length values ≡ length es) × GivesInOrder V × GivesInReverse V × AreFound values
