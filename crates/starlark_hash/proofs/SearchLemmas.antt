-- What a search by a closure finds.
use Rattle.starlark_hash.proofs.Common.{◌≡◌, ℕ, zero, suc, ◌<◌, inl, inr, Bool, true, false, List, [], ◌∷◌, get_or, map, Option, Some, None, refl, sym, ap, ◌∙◌, arith, filter, slice_get, Contains, enumerate_from, Bor, Mut, Called, CalledAt, cond_both, false≢true, and_parts, get_or_from_slice_get, slice_get_within, none-some, same_Some, IsPermutation-sym, Contains-permutation, All, nat_tests, slice_get-get_or, All-cons, All-contains, All-map, All-filter, get_or-enumerate_from, length-enumerate_from}
use Rattle.starlark_hash.specs.declared.hash_value.StarlarkHashValue.{StarlarkHashValue}
use Rattle.starlark_hash.specs.Entries.{Entry, entry_key, is_under, stands_under, position_of, IsSingle}
use Rattle.starlark_hash.specs.Search.{Asks, Searches, keys_under}
use Rattle.starlark_hash.proofs.PositionLemmas.{position-within, position-passes, position-None}
use Rattle.std.proofs.lemmas.Option.{slice_get_cases}
use Rattle.std.proofs.lemmas.List.Elements.{All-nil, filter_passes}

module _ {F X : Type 0} (g : Mut F (Bor X × Unit {0}) Bool) where
  -- each call of the closure f returns what t says of the item, and leaves f as it is
  pub record IsTest (t : X → Bool) (f : F) : Type 0 where
    pub tells : (x : X) (accepts : Bool) (next : F) → CalledAt g f x accepts next → (accepts ≡ t x) × (next ≡ f)

  -- f is a test if each call with a reference returns what t says of the item, and leaves f as it is
  pub is_test : (t : X → Bool) (f : F) → ((x : Bor X) (accepts : Bool) (next : F) → Called g f (x, tt) accepts next → (accepts ≡ t x.now) × (next ≡ f)) → IsTest t f
  is_test t f tells = record {
    tells = λ x accepts next call. let told = tells call.shown accepts next call.called in (told.0 ∙ ap t call.shows, told.1);
  }

module _ {F N X : Type 0} (g : Mut F (Bor X × Unit {0}) Bool) where
  module _ (t : X → Bool) (f : F) (test : IsTest g t f) where
    refused_in : (order : List (N × X)) (answer : Option N) (last : F) → Asks g f order answer last → answer ≡ None → All (λ p. t p.1 ≡ false) order
    refused_in [] answer last asks is = All-nil (λ p. t p.1 ≡ false)
    refused_in (p ∷ order) answer last (true, next, called, end) is = absurd (none-some p.0 (sym is ∙ end.0))
    refused_in (p ∷ order) answer last (false, next, called, rest) is =
        let told = test.tells p.1 false next called in
        All-cons (λ q. t q.1 ≡ false) p order (sym told.0) (refused_in order answer last (rw told.1 at rest) is)

    accepted_in : (order : List (N × X)) (answer : Option N) (last : F) (n : N) → Asks g f order answer last → answer ≡ Some n → (x : X) × Contains order (n, x) × (t x ≡ true)
    accepted_in [] answer last n asks is = absurd (none-some n (sym asks.0 ∙ is))
    accepted_in (p ∷ order) answer last n (true, next, called, end) is =
        (p.1, (0, omega arith, ap (λ m. (m, p.1)) (same_Some p.0 n (sym end.0 ∙ is))), sym (test.tells p.1 true next called).0)
    accepted_in (p ∷ order) answer last n (false, next, called, rest) is =
        let (x, (k, below, at), passes) = accepted_in order answer last n (rw (test.tells p.1 false next called).1 at rest) is in
        (x, (suc k, omega arith, at), passes)

    -- if a search finds nothing, t refuses all items
    pub test-refused : (items : List (N × X)) (answer : Option N) (last : F) → Searches g items f answer last → answer ≡ None → (p : N × X) → Contains items p → t p.1 ≡ false
    test-refused items answer last search is p there =
        All-contains (λ q. t q.1 ≡ false) search.order p (refused_in search.order answer last search.asks is) (Contains-permutation items search.order p search.rearranged there)

    -- the name that a search finds is that of an item that t accepts
    pub test-accepted : (items : List (N × X)) (answer : Option N) (last : F) (n : N) → Searches g items f answer last → answer ≡ Some n → (x : X) × Contains items (n, x) × (t x ≡ true)
    test-accepted items answer last n search is =
        let (x, there, passes) = accepted_in search.order answer last n search.asks is in
        (x, Contains-permutation search.order items (n, x) (IsPermutation-sym items search.order search.rearranged) there, passes)

-- an item that passes a filter is among what it keeps
kept : {X Y : Type 0} (p : X → Bool) (h : X → Y) (xs : List X) (x : X) → Contains xs x → p x ≡ true → Contains (map h (filter p xs)) (h x)
kept p h [] x there passes = absurd (omega (arith, there.1))
kept p h (y ∷ ys) x (zero, below, at) passes = rw (at, passes) (0, omega arith, refl)
kept p h (y ∷ ys) x (suc k, below, at) passes =
    let (j, within, is) = kept p h ys x (k, omega arith, at) passes in
    cond_both (p y) (y ∷ filter p ys) (filter p ys) (λ zs. Contains (map h zs) (h x)) (λ _. (suc j, omega arith, is)) (λ _. (j, within, is))

module _ {K V : Type 0} (hash : StarlarkHashValue) where
  -- each name in `keys_under` is the index of an entry that is stored under the hash with this key
  pub keys_under-at : (es : List (Entry K V)) (i : ℕ) (key : K) → Contains (keys_under hash es) (i, key) → (e : Entry K V) × (slice_get es i ≡ Some e) × (is_under hash e ≡ true) × (key ≡ entry_key e)
  keys_under-at es i key there =
      let IsAt = λ (p : ℕ × K). (e : Entry K V) × (slice_get es p.0 ≡ Some e) × (is_under hash e ≡ true) × (p.1 ≡ entry_key e) in
      let test = λ (p : ℕ × Entry K V). is_under hash p.1 in
      let ps = enumerate_from 0 es in
      let named : All (λ p. slice_get es p.0 ≡ Some p.1) ps = λ k d below. grind (arith, get_or-enumerate_from, length-enumerate_from, slice_get-get_or) in
      All-contains IsAt (keys_under hash es) (i, key)
      (All-map IsAt (λ (p : ℕ × Entry K V). (p.0, entry_key p.1)) (filter test ps)
      (λ k d below. ((get_or (filter test ps) k d).1, All-filter test (λ p. slice_get es p.0 ≡ Some p.1) ps named k d below, filter_passes test ps k d below, refl))) there

  -- each entry that is stored under the hash is in `keys_under`
  pub at-keys_under : (es : List (Entry K V)) (i : ℕ) (e : Entry K V) → slice_get es i ≡ Some e → is_under hash e ≡ true → Contains (keys_under hash es) (i, entry_key e)
  at-keys_under es i e at under =
      let within = slice_get_within es i e at in
      kept (λ p. is_under hash p.1) (λ p. (p.0, entry_key p.1)) (enumerate_from 0 es) (i, e)
      (i, omega (arith, length-enumerate_from 0 es), grind (arith, get_or-enumerate_from 0 es i (i, e) within, get_or_from_slice_get)) under

module _ {K V : Type 0} (eq : K → K → Bool) (t : K → Bool) (alike : (x y : K) → t x ≡ true → t y ≡ true → eq x y ≡ true)
    (hash : StarlarkHashValue) (es : List (Entry K V)) (single : IsSingle eq es) where
  -- whether an entry is one that the search may find
  abbrev Passes : Entry K V → Type 0
  Passes e = (is_under hash e ≡ true) × (t (entry_key e) ≡ true)

  clash : (i j : ℕ) (d e : Entry K V) → i < j → slice_get es i ≡ Some d → slice_get es j ≡ Some e → Passes d → Passes e → ⊥
  clash i j d e below at_i at_j does_d does_e =
      let apart = rw (get_or_from_slice_get es j e d at_j, get_or_from_slice_get es i d d at_i) at (single i j d below (slice_get_within es j e at_j)) in
      let same = alike (entry_key d) (entry_key e) does_d.1 does_e.1 in
      grind (arith, nat_tests)

  -- a single list has one index at most whose entry passes
  same_index : (i j : ℕ) (d e : Entry K V) → slice_get es i ≡ Some d → slice_get es j ≡ Some e → Passes d → Passes e → i ≡ j
  same_index i j d e at_i at_j does_d does_e = grind (arith, clash)

  -- the entry at the position passes
  at_position : (j : ℕ) → position_of hash t es ≡ Some j → (e : Entry K V) × (slice_get es j ≡ Some e) × Passes e
  at_position j is = elim (slice_get_cases es j).1 [
    | inl (e, within, at, same) ↦ (e, at, and_parts (is_under hash e) (t (entry_key e)) (rw same at (position-passes (stands_under hash t) es j e is)))
    | inr past ↦ absurd (omega (arith, past, position-within (stands_under hash t) es j is))
  ]

  -- an index whose entry passes is the position
  pub position_of-only : (i : ℕ) (e : Entry K V) → slice_get es i ≡ Some e → is_under hash e ≡ true → t (entry_key e) ≡ true → position_of hash t es ≡ Some i
  position_of-only i e at under does = at_index (position_of hash t es) refl where
    at_index : (index : Option ℕ) → position_of hash t es ≡ index → index ≡ Some i
    at_index None is =
        let never = position-None (stands_under hash t) es is i e (slice_get_within es i e at) in
        grind (arith, nat_tests, get_or_from_slice_get es i e e at, never)
    at_index (Some j) is = let (d, at_j, passes) = at_position j is in ap (λ k. Some k) (same_index j i d e at_j at passes (under, does))

  module _ {F : Type 0} (g : Mut F (Bor K × Unit {0}) Bool) (f : F) (test : IsTest g t f) where
    -- a search by a test that passes only equal keys finds the position
    pub search-position_of : (answer : Option ℕ) (last : F) → Searches g (keys_under hash es) f answer last → answer ≡ position_of hash t es
    search-position_of None last search = none (position_of hash t es) refl where
      none : (index : Option ℕ) → position_of hash t es ≡ index → None ≡ index
      none None is = refl
      none (Some j) is =
          let (e, at, passes) = at_position j is in
          absurd (false≢true (sym (test-refused g t f test (keys_under hash es) None last search refl (j, entry_key e) (at-keys_under hash es j e at passes.0)) ∙ passes.1))
    search-position_of (Some i) last search =
        let (key, there, passes) = test-accepted g t f test (keys_under hash es) (Some i) last i search refl in
        let (e, at, under, same) = keys_under-at hash es i key there in
        sym (position_of-only i e at under (ap t (sym same) ∙ passes))
