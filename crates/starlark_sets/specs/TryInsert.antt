-- What `try_insert` does and returns.
use Rattle.std.specs.Prelude.{◌≡◌, ◌<◌, Bool, true, false, Option, Some, None, Result, MatchOption, MatchResult, IfErr, OnOk, IsErr, IsTrue, ⊤, is_some, length, slice_get}
use Rattle.std.specs.Option.{option_map}
use Rattle.starlark_hash.specs.HashValue.{hash_of, key_of}
use Rattle.starlark_hash.specs.declared.hashed.Hashed.{Hashed}
use Rattle.starlark_hash.specs.Entries.{entry_key, match_of}
use Rattle.starlark_hash.specs.Lookup.{found, found_key}
use Rattle.starlark_small.specs.Insert.{IsInserted, IsRefused}
use Rattle.starlark_sets.specs.Set.{Elements, Set}
use Rattle.starlark_sets.specs.declared.ordered_set.try_insert.TryInsertError.{TryInsertError}
use Rattle.starlark_sets.specs.declared.ordered_set.try_insert.TryInsertError.TheVariants.{Occupied, Memory}
use Rattle.starlark_sets.specs.declared.ordered_set.try_insert.Refusal.{Refusal}
use Rattle.starlark_sets.specs.declared.ordered_set.try_insert.Refusal.TheVariants.{Placed, Full}

module _ {T : Type 0} where
  -- new is old after `try_insert` of this element. If an equal one is under its hash, this one is refused and nothing changes.
  -- Otherwise it is appended, or is refused, which happens at room 0 alone
  abbrev pub Tries : {A E : Type 0} → (T → T → Bool) → Set T → Set T → Hashed T → Result A E → Type 0
  Tries eq old new element r =
      MatchOption (match_of eq old.entries element)
      (MatchResult r (λ _. IsInserted old new element tt) (λ _. IsRefused old new × (old.room ≡ 0)))
      (λ _. IsErr r × (new ≡ old))

  -- the error has the refused element, and the one that is there if there is one
  abbrev pub IsRefusal : Option T → T → TryInsertError T → Type 0
  IsRefusal there value (Occupied e) = (e.value ≡ value) × (there ≡ Some e.occupied.now)
  IsRefusal there value (Memory e) = (e.0 ≡ value) × (there ≡ None)

  -- whether the element was refused because an equal one is there
  abbrev pub is_occupied : TryInsertError T → Bool
  is_occupied (Occupied e) = true
  is_occupied (Memory e) = false

  -- the element that is there is equal to the refused one
  abbrev pub ShowsEqual : (T → T → Bool) → T → TryInsertError T → Type 0
  ShowsEqual eq value (Occupied e) = IsTrue (eq value e.occupied.now)
  ShowsEqual eq value (Memory e) = ⊤

  -- the element was lacking and was inserted; or it was refused, because an equal one is there, or for want of memory at room 0
  -- alone
  pub record AnswersTry (eq : T → T → Bool) (old : Set T) (element : Hashed T) (r : Result (Unit {0}) (TryInsertError T)) : Type 0 where
    pub lacking : OnOk r (is_some (found (eq (key_of element)) (hash_of element) old.entries) ≡ false)
    pub there : IfErr r (λ refused. is_some (found (eq (key_of element)) (hash_of element) old.entries) ≡ is_occupied refused)
    pub equal : IfErr r (ShowsEqual eq (key_of element))
    pub refused : IfErr r (IsRefusal (found_key (eq (key_of element)) (hash_of element) old.entries) (key_of element))
    pub full : IfErr r (λ refused. is_occupied refused ≡ false → old.room ≡ 0)

  -- the refusal has the refused element, and the index of the one that is there if there is one
  abbrev pub IsPlaced : Elements T → Option T → T → Refusal T → Type 0
  IsPlaced es there value (Placed index refused) = (refused ≡ value) × (there ≡ option_map entry_key (slice_get es index))
  IsPlaced es there value (Full e) = (e.0 ≡ value) × (there ≡ None)

  -- the index that the refusal names is within the list
  abbrev pub IsWithin : Elements T → Refusal T → Type 0
  IsWithin es (Placed index refused) = index < length es
  IsWithin es (Full e) = ⊤

  -- the error has the element at the refusal's index
  abbrev pub ShowsPlaced : Elements T → Refusal T → TryInsertError T → Type 0
  ShowsPlaced es (Placed index refused) (Occupied e) = (e.value ≡ refused) × (option_map entry_key (slice_get es index) ≡ Some e.occupied.now)
  ShowsPlaced es (Placed index refused) (Memory e) = ⊥
  ShowsPlaced es (Full n) (Occupied e) = ⊥
  ShowsPlaced es (Full n) (Memory e) = e ≡ n

  -- r is `Ok` if `tried` is. Otherwise it has the element at the index of the refusal
  abbrev pub IsTold : Elements T → Result (Unit {0}) (Refusal T) → Result (Unit {0}) (TryInsertError T) → Type 0
  IsTold es tried r = MatchResult tried (λ _. MatchResult r (λ _. ⊤) (λ _. ⊥)) (λ x. MatchResult r (λ _. ⊥) (ShowsPlaced es x))
