-- Clones of keys, of pairs and of entries.
use Rattle.std.specs.Prelude.{Bool, IsTrue, ◌≡◌}
use Rattle.starlark_hash.specs.Entries.{Entry, entry_hash, entry_key, entry_value}

-- a clone is equal to its original
abbrev pub IsEqualClone : {K : Type 0} → (K → K → Bool) → (K → K → Type 0) → Type 0
IsEqualClone {K} eq is_clone = (x y : K) → is_clone x y → IsTrue (eq x y)

module _ {A B : Type 0} where
  -- both parts of the second pair are clones of the first's
  abbrev pub IsPairClone : (A → A → Type 0) → (B → B → Type 0) → A × B → A × B → Type 0
  IsPairClone first second p q = first p.0 q.0 × second p.1 q.1

-- a clone and its original are the same value
abbrev pub IsLawfulClone : {T : Type 0} → (T → T → Type 0) → Type 0
IsLawfulClone {T} is_clone = (x y : T) → is_clone x y → y ≡ x

module _ {K V : Type 0} where
  -- the second entry has the first one's hash, and clones of its key and its value
  abbrev pub IsEntryClone : (K → K → Type 0) → (V → V → Type 0) → Entry K V → Entry K V → Type 0
  IsEntryClone key value d e = (entry_hash e ≡ entry_hash d) × key (entry_key d) (entry_key e) × value (entry_value d) (entry_value e)
