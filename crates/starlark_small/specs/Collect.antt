-- Maps made of an iterator's items, or extended by them. Sets, ordered and sorted types cite these definitions too.
use Rattle.std.specs.Prelude.{◌≡◌, ◌≤◌, ◌+◌, ℕ, List, [], ◌∷◌, ◌++◌, Bool, true, IfSome, IsSome, Option, None, Result, MatchResult, IsOk, OnErr, ◌||◌, nat_lt, length, map}
use Rattle.std.specs.Hash.{HashWrites}
use Rattle.std.specs.Iterator.{Count, Drains, Yields}
use Rattle.std.specs.Iterator.Runs.{AllItems, AnyItem, WholeRun}
use Rattle.std.specs.Iterator.SizeHint.{IsWithinCount}
use Rattle.std.specs.Map.{update_all}
use Rattle.starlark_hash.specs.Entries.{Entry, match_of}
use Rattle.starlark_hash.specs.Insert.{insert_entry}
use Rattle.starlark_small.specs.Lookup.{AreOwn, AreOwnEntries, get}
use Rattle.starlark_small.specs.Memory.{GrowsInSteps}
use Rattle.starlark_small.specs.Index.{unindexed}
use Rattle.starlark_small.specs.Map.{Map, KeepsRoom, own_hashed}
use Rattle.starlark_vec2.specs.PairList.{pair_list}
use Rattle.starlark_vec2.specs.Growth.{push_all}

-- the entry of a pair, under its key's own hash
abbrev pub own_entry : {K V : Type 0} → (K → HashWrites) → K × V → Entry K V
own_entry feeds p = (own_hashed feeds p.0, p.1)

module _ {K V : Type 0} (eq : K → K → Bool) where
  -- the list after these entries were inserted, one after the other
  abbrev pub insert_all : List (Entry K V) → List (Entry K V) → List (Entry K V)
  insert_all es [] = es
  insert_all es (x ∷ xs) = insert_all (insert_entry eq es x.0 x.1) xs

  module _ {T A : Type 0} (item : A → Entry K V) (steps : T → Option A → T → Type 0) where
    -- after these items the iterator gave one that has no match in the list
    pub record StopsAt (it : T) (items : List A) (es : List (Entry K V)) : Type 0 where
      pub next : A
      pub rest : T
      pub gave : Yields steps it (items ++ next ∷ []) rest
      pub absent : match_of eq es (item next).0 ≡ None

    -- the iterator's items were inserted: all of them, or, after a refusal, those before an item that has no match
    pub record InsertsItems {E : Type 0} (it : T) (old new : List (Entry K V)) (r : Result (Unit {0}) E) : Type 0 where
      pub items : List A
      pub entries : new ≡ insert_all old (map item items)
      pub ended : MatchResult r (λ _. Drains steps it items) (λ _. StopsAt it items new)

    -- `InsertsItems`, for the iterator that is made of `iter`
    pub record Extends {U E : Type 0} (becomes : U → T → Type 0) (iter : U) (old new : List (Entry K V)) (r : Result (Unit {0}) E) : Type 0 where
      pub it : T
      pub made : becomes iter it
      pub inserts : InsertsItems it old new r

    -- m is an empty map after the insertion of all of the iterator's items. The empty map had room for a number of entries within
    -- what the iterator bounds, and from there the capacity grew as by single insertions. There is a hash index if that number, or
    -- the length now, is above the threshold
    pub record Collects {U : Type 0} (becomes : U → T → Type 0) (remaining : T → Count) (iter : U) (m : Map K V) : Type 0 where
      pub it : T
      pub made : becomes iter it
      pub first : ℕ
      pub bounded : IsWithinCount first (remaining it)
      pub items : List A
      pub drained : Drains steps it items
      pub entries : m.entries ≡ insert_all [] (map item items)
      pub room : first ≤ length m.entries + m.room
      pub capacity : m.capacity ≡ (push_all (pair_list [] first) m.entries).capacity
      pub indexed : m.indexed ≡ (nat_lt unindexed first || nat_lt unindexed (length m.entries))

-- the memory of a map after the insertion of an iterator's items, done or refused. `fits` says that there was room for all of them:
-- then none is refused, and capacity and hash index stay. A refusal comes only once the room is used up. No room is lost, the
-- capacity grows as by single insertions, and there is a hash index if there was one or the list is now longer than the threshold
pub record IsExtended {K V A E : Type 0} (fits : Type 0) (old new : Map K V) (r : Result A E) : Type 0 where
  pub succeeds : fits → IsOk r
  pub spare : fits → (new.capacity ≡ old.capacity) × (new.indexed ≡ old.indexed)
  pub full : OnErr r (length old.entries + old.room ≤ length new.entries)
  pub room : KeepsRoom old new
  pub capacity : GrowsInSteps old new r
  pub indexed : new.indexed ≡ (old.indexed || nat_lt unindexed (length new.entries))

module _ {K V T U : Type 0} (eq : K → K → Bool) (feeds : K → HashWrites) (steps : T → Option (K × V) → T → Type 0) (becomes : U → T → Type 0) (iter : U) where
  -- each key has the last value that the iterator's items have for it, or else its old value. The definition speaks of a run, like
  -- the kit's clauses on iterators, so that callers' proofs find the items
  abbrev pub FindsLast : (K → Option V) → Map K V → Type 0
  FindsLast before m = (it : T) × becomes iter it × WholeRun steps it (λ p. (key : K) → get eq feeds m key ≡ update_all eq before p.items key)

  -- where a key is found, some item has an equal key and the found value; and the key of each item is found
  abbrev pub HasItems : Map K V → Type 0
  HasItems m = (it : T) × becomes iter it × WholeRun steps it (λ p. ((key : K) → IfSome (get eq feeds m key) (λ v. AnyItem p (λ x. (eq key x.0 ≡ true) × (x.1 ≡ v))))
      × AllItems p (λ x. IsSome (get eq feeds m x.0)))

-- if the iterator's items are under their keys' own hashes, the map's entries are
abbrev pub KeepsOwn : {K V T U : Type 0} → (T → Option (Entry K V) → T → Type 0) → (U → T → Type 0) → U → Map K V → Type 0
KeepsOwn {K} {V} {T} {U} steps becomes iter m = (it : T) × becomes iter it × WholeRun steps it (λ p. (feeds : K → HashWrites) → AreOwnEntries feeds p.items → AreOwn feeds m)

-- the map has the iterator's items, inserted in their order
abbrev pub InsertsEach : {K V T U : Type 0} → (K → K → Bool) → (T → Option (Entry K V) → T → Type 0) → (U → T → Type 0) → U → Map K V → Type 0
InsertsEach {K} {V} {T} {U} eq steps becomes iter m = (it : T) × becomes iter it × WholeRun steps it (λ p. m.entries ≡ insert_all eq [] p.items)

module _ {K V T U : Type 0} (eq : K → K → Bool) (feeds : K → HashWrites) (steps : T → Option (K × V) → T → Type 0) (becomes : U → T → Type 0) (remaining : T → Count) (iter : U) where
  -- the map was made of the iterator's items, inserted in their order, each under its key's own hash
  pub record IsMadeOf (m : Map K V) : Type 0 where
    pub map : Collects eq (own_entry feeds) steps becomes remaining iter m
    pub items : HasItems eq feeds steps becomes iter m
    pub own : AreOwn feeds m
