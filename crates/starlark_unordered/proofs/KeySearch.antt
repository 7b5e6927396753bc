-- A search of the items of a hash, seen as a search of their keys.
use Rattle.starlark_hash.proofs.Common.{◌≡◌, ℕ, suc, ◌+◌, ◌<◌, ◌^◌, Bool, true, false, nat_eq, List, [], ◌∷◌, ◌++◌, map, Option, Some, None, refl, ap, sym, subst, arith, Bor, Mut, CalledAt, TakesAt, All, Contains, enumerate_from, HashWrites, All-tail, IsPermutation-map, IsPermutation-sym, Contains-permutation, none-some, same_Some, IfSome, map-append, nat_tests, All-head, filter, is_some}
use Rattle.starlark_hash.specs.Hasher.{hash_of_writes, own_hash}
use Rattle.starlark_hash.specs.HashValue.{hash_number, promoted}
use Rattle.starlark_hash.specs.declared.hash_value.StarlarkHashValue.{StarlarkHashValue}
use Rattle.starlark_hash.proofs.Promotion.{promoted-injective}
use Rattle.starlark_unordered.specs.Pairs.{has_own_hash, keys_from, keys_under}
use Rattle.starlark_unordered.specs.Sound.{IsKeyed, keyed, home_of}
use Rattle.starlark_hash.specs.Search.{Asks, Searches, Refuses, CanSearch}
use Rattle.starlark_table.specs.Table.{Table, members, filled, holders, items_under, item_in}
use Rattle.starlark_table.proofs.TableLemmas.{member_at-items_under}

-- the numbered items, each replaced by its key
abbrev pub named_keys : {K V : Type 0} → List (ℕ × (K × V)) → List (ℕ × K)
named_keys ps = map (λ s. (s.0, s.1.0)) ps

-- a key's own hash has 32 bits
own-fits : (writes : HashWrites) → hash_number (hash_of_writes writes) < 2 ^ 32
unfolding hash_of_writes
own-fits writes = omega arith

-- if each key is stored under its own hash, the keys found under a hash are those whose own hash it is
module _ {K : Type 0} (feeds : K → HashWrites) (hash : StarlarkHashValue) (fits : hash_number hash < 2 ^ 32) where
  -- two own hashes have one promoted hash only if they are equal
  pub same_test : (key : K) (h : ℕ) → h ≡ home_of feeds key → nat_eq h (promoted (hash_number hash)) ≡ has_own_hash feeds hash key
  same_test key h own = grind (arith, nat_tests, own, promoted-injective (hash_number (own_hash feeds key)) (hash_number hash) (own-fits (feeds key)) fits)

module _ {K V : Type 0} (feeds : K → HashWrites) (hash : StarlarkHashValue) (fits : hash_number hash < 2 ^ 32) where
  named-holders : (n : ℕ) (slots : List (Option (ℕ × (K × V)))) → All (λ p. p.0 ≡ home_of feeds p.1) (keyed (filled slots))
      → named_keys (holders (promoted (hash_number hash)) (enumerate_from n slots)) ≡ filter (λ s. has_own_hash feeds hash s.1) (keys_from n slots)
  named-holders n [] own = refl
  named-holders n (None ∷ slots) own = named-holders (n + 1) slots own
  named-holders n (Some (h, p) ∷ slots) own =
      let same = same_test feeds hash fits p.0 h (All-head (λ p. p.0 ≡ home_of feeds p.1) (h, p.0) (keyed (filled slots)) own) in
      let later = named-holders (n + 1) slots (All-tail (λ p. p.0 ≡ home_of feeds p.1) (h, p.0) (keyed (filled slots)) own) in
      grind (arith, same, later)

  pub named-items_under : (eq : K → K → Bool) (m : Table (K × V)) → IsKeyed eq feeds (keyed (members m)) → named_keys (items_under (promoted (hash_number hash)) m) ≡ keys_under feeds hash m
  named-items_under eq m keys = named-holders 0 m.slots keys.own

-- The closure w is called on a pair and calls g on its key. `inner` is the state of g in the state of w.
module _ {C F K V : Type 0} (g : Mut F (Bor K × Unit {0}) Bool) (w : Mut C (Bor (K × V) × Unit {0}) Bool) (inner : C → F)
    (carries : (s t : C) (b : Bool) (x : K × V) → CalledAt w s x b t → CalledAt g (inner s) x.0 b (inner t)) where
  asks_keys : (order : List (ℕ × (K × V))) (s last : C) (answer : Option ℕ) → Asks w s order answer last → Asks g (inner s) (named_keys order) answer (inner last)
  asks_keys [] s last answer (none, same) = (none, ap inner same)
  asks_keys (p ∷ order) s last answer (true, t, called, (is, same)) = (true, inner t, carries s t true p.1 called, (is, ap inner same))
  asks_keys (p ∷ order) s last answer (false, t, called, rest) = (false, inner t, carries s t false p.1 called, asks_keys order t last answer rest)

  refuses_keys : (before : List (ℕ × (K × V))) (s last : C) → Refuses w s before last → Refuses g (inner s) (named_keys before) (inner last)
  refuses_keys [] s last same = ap inner same
  refuses_keys (p ∷ before) s last (t, called, rest) = (inner t, carries s t false p.1 called, refuses_keys before t last rest)

  pub searches_keys : (items : List (ℕ × (K × V))) (s last : C) (answer : Option ℕ) → Searches w items s answer last → Searches g (named_keys items) (inner s) answer (inner last)
  searches_keys items s last answer search =
      let rearranged = IsPermutation-map {X = ℕ × K} (λ s. (s.0, s.1.0)) items search.order search.rearranged in
      record { order = named_keys search.order; rearranged = rearranged; asks = asks_keys search.order s last answer search.asks }

  pub can_search_items : ((s : C) (x : K × V) → TakesAt g (inner s) x.0 → TakesAt w s x) → (items : List (ℕ × (K × V))) (s : C) → CanSearch g (named_keys items) (inner s) → CanSearch w items s
  can_search_items takes items s can = record {
    at = λ before p after later moves refused.
        let named = rw map-append at (IsPermutation-map {X = ℕ × K} (λ s. (s.0, s.1.0)) items (before ++ p ∷ after) moves) in
        takes later p.1 (can.at (named_keys before) (p.0, p.1.0) (named_keys after) (inner later) named (refuses_keys before s later refused));
  }

-- a call on a key is a call on an equal one
pub called_same : {F K : Type 0} (g : Mut F (Bor K × Unit {0}) Bool) (f f' : F) (b : Bool) (k l : K) → k ≡ l → CalledAt g f k b f' → CalledAt g f l b f'
called_same g f f' b k l e called = subst (λ k. CalledAt g f k b f') e called

module _ {C X : Type 0} (w : Mut C (Bor X × Unit {0}) Bool) where
  asked_about : (order : List (ℕ × X)) (s last : C) (slot : ℕ) → Asks w s order (Some slot) last → (x : X) × Contains order (slot, x)
  asked_about [] s last slot asks = absurd (none-some slot (sym asks.0))
  asked_about (p ∷ order) s last slot (true, t, called, (is, same)) = (p.1, (0, omega arith, ap (λ n. (n, p.1)) (same_Some p.0 slot (sym is))))
  asked_about (p ∷ order) s last slot (false, t, called, rest) = let (x, (k, below, at)) = asked_about order t last slot rest in (x, (suc k, omega arith, at))

-- a slot that is found has a pair
pub found_there : {C K V : Type 0} (w : Mut C (Bor (K × V) × Unit {0}) Bool) (hash : ℕ) (m : Table (K × V)) (s last : C) (answer : Option ℕ) → Searches w (items_under hash m) s answer last
    → IfSome answer (λ slot. is_some (item_in m slot) ≡ true)
found_there w hash m s last None search = tt
found_there w hash m s last (Some slot) search =
    let (x, there) = asked_about w search.order s last slot search.asks in
    rw (member_at-items_under hash m (slot, x) (Contains-permutation search.order (items_under hash m) (slot, x) (IsPermutation-sym (items_under hash m) search.order search.rearranged) there))
