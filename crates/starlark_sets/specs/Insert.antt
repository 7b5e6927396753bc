-- What insertions into sets do and return, done or refused.
use Rattle.std.specs.Prelude.{◌≡◌, Bool, Result, MatchOption, MatchResult, IsOk, IsTrue, Some, ℕ, ◌+◌, ◌<◌, false, IfOk, IfErr, OnOk, OnErr, is_some, if◌then◌else◌, length, slice_get}
use Rattle.std.specs.Borrow.{Bor}
use Rattle.starlark_hash.specs.declared.hashed.Hashed.{Hashed}
use Rattle.starlark_hash.specs.Entries.{match_of, position_of, entry_key}
use Rattle.starlark_hash.specs.HashValue.{hashed, hash_of, key_of}
use Rattle.starlark_hash.specs.declared.hash_value.StarlarkHashValue.{StarlarkHashValue}
use Rattle.starlark_small.specs.Insert.{IsInserted, IsRefused}
use Rattle.starlark_sets.specs.Set.{Set, element_at, Elements}
use Rattle.std.specs.Hash.{HashWrites}
use Rattle.std.specs.Option.{option_map, unwrap_or}
use Rattle.starlark_hash.specs.Hasher.{own_hash}
use Rattle.starlark_hash.specs.declared.no_room.NoRoom.{NoRoom}
use Rattle.starlark_hash.specs.Lookup.{found, found_key}
use Rattle.starlark_small.specs.Lookup.{AreOwn, UpdatesBy, contains}

module _ {T : Type 0} where
  -- new is old after an insertion of this element. An element that is there changes nothing; a new one is appended, or is
  -- refused, which happens at room 0 alone
  abbrev pub Adds : {A E : Type 0} → (T → T → Bool) → Set T → Set T → Hashed T → Result A E → Type 0
  Adds eq old new element r =
      MatchOption (match_of eq old.entries element)
      (MatchResult r (λ _. IsInserted old new element tt) (λ _. IsRefused old new × (old.room ≡ 0)))
      (λ _. IsOk r × (new ≡ old))

  -- new is old after an insertion for this query under this hash, and r lends the element. If the query finds one, that is lent
  -- and nothing changes. Otherwise one that the query stands for is appended and lent, or the call is refused
  abbrev pub AddsFor : {Q E : Type 0} → (Q → T → Bool) → StarlarkHashValue → Set T → Set T → Q → Result (Bor T) E → Type 0
  AddsFor equivalent hash old new query r =
      let index = position_of hash (equivalent query) old.entries in
      MatchOption index
      (MatchResult r (λ p. IsTrue (equivalent query p.now) × IsInserted old new (hashed hash p.now) tt) (λ _. IsRefused old new))
      (λ i. MatchResult r (λ p. (element_at old index ≡ Some p.now) × (new ≡ old)) (λ _. ⊥))

module _ {T : Type 0} (eq : T → T → Bool) where
  -- the element that was there is lent, or else this one. What is lent is equal to this one. Only an element that was lacking is
  -- refused, and it comes back
  pub record ShowsPut (old : Set T) (element : Hashed T) (r : Result (Bor T) (NoRoom T)) : Type 0 where
    pub shown : IfOk r (λ p. p.now ≡ unwrap_or (found_key (eq (key_of element)) (hash_of element) old.entries) (key_of element))
    pub equal : IfOk r (λ p. IsTrue (eq (key_of element) p.now))
    pub lacking : OnErr r (is_some (found (eq (key_of element)) (hash_of element) old.entries) ≡ false)
    pub handed_back : IfErr r (λ refused. refused.0 ≡ key_of element)

module _ {T B : Type 0} (eq : T → T → Bool) where
  -- r is the index of this element, which is appended if it was lacking. If it is refused, `back` comes back
  pub record AnswersIndex (old new : Set T) (element : Hashed T) (back : B) (r : Result ℕ (NoRoom B)) : Type 0 where
    pub set : Adds eq old new element r
    pub stored : IfOk r (λ i. option_map entry_key (slice_get new.entries i) ≡ Some (unwrap_or (element_at old (match_of eq old.entries element)) (key_of element)))
    pub within : IfOk r (λ i. i < length new.entries)
    pub handed_back : IfErr r (λ refused. refused.0 ≡ back)

module _ {T : Type 0} (eq : T → T → Bool) where
  -- an element for this query was appended under the query's own hash if it was lacking, and otherwise nothing changes. Only an
  -- element that is lacking is refused
  pub record PutsElementFor {Q E : Type 0} (equivalent : Q → T → Bool) (feeds : Q → HashWrites) (old new : Set T) (query : Q) (r : Result (Bor T) E) : Type 0 where
    -- the query stands for the element that is lent
    pub equal : IfOk r (λ p. IsTrue (equivalent query p.now))
    pub updates : OnOk r (UpdatesBy eq equivalent feeds old new query (Some tt))
    pub count : OnOk r (length new.entries ≡ length old.entries + (if contains equivalent feeds old query then 0 else 1))
    -- elements under their own hashes stay so, if the query feeds a hasher what each element feeds that it stands for
    pub own : (stored : T → HashWrites) → ((element : T) → IsTrue (equivalent query element) → feeds query ≡ stored element) → AreOwn stored old → AreOwn stored new
    pub unchanged : OnErr r (new.entries ≡ old.entries)
    pub lacking : OnErr r (contains equivalent feeds old query ≡ false)
    -- the whole set, done or refused
    pub set : AddsFor equivalent (own_hash feeds query) old new query r

-- r lends the element at the index, or passes on the refusal
abbrev pub IsShown : {T E : Type 0} → Elements T → Result ℕ E → Result (Bor T) E → Type 0
IsShown es index r =
    MatchResult index
    (λ i. MatchResult r (λ p. option_map entry_key (slice_get es i) ≡ Some p.now) (λ _. ⊥))
    (λ e. MatchResult r (λ _. ⊥) (λ f. f ≡ e))

-- new is old after an insertion for this query under this hash, and r is the index of the element. If the query finds one,
-- nothing changes. Otherwise one that the query stands for is appended, or the call is refused
abbrev pub AddsAt : {Q T E : Type 0} → (Q → T → Bool) → StarlarkHashValue → Set T → Set T → Q → Result ℕ E → Type 0
AddsAt {T = T} equivalent hash old new query r =
    MatchOption (position_of hash (equivalent query) old.entries)
    (MatchResult r (λ i. (i ≡ length old.entries) × ((element : T) × IsTrue (equivalent query element) × IsInserted old new (hashed hash element) tt)) (λ _. IsRefused old new))
    (λ index. MatchResult r (λ i. (i ≡ index) × (new ≡ old)) (λ _. ⊥))
