-- A search from the front by a closure that is a test.
use Rattle.starlark_hash.proofs.Common.{◌≡◌, ℕ, ◌+◌, ◌<◌, Bool, true, false, cond, List, [], ◌∷◌, length, map, Option, Some, sym, ◌∙◌, arith, ◌&&◌, filter, position, IfSome, enumerate_from, option_map, Bor, Mut}
use Rattle.starlark_hash.specs.declared.hash_value.StarlarkHashValue.{StarlarkHashValue}
use Rattle.starlark_hash.specs.Entries.{Entry, entry_key, is_under, stands_under, position_of}
use Rattle.starlark_hash.specs.Search.{Asks, keys_under}
use Rattle.starlark_hash.proofs.PositionLemmas.{position-cons, position-within}
use Rattle.starlark_hash.proofs.SearchLemmas.{IsTest}

-- the index that is found is within the list
pub found_within : {X : Type 0} (p : X → Bool) (xs : List X) (o : Option ℕ) → o ≡ position p xs → IfSome o (λ i. i < length xs)
found_within p xs o e = grind (arith, position-within p xs)

module _ {F K : Type 0} (g : Mut F (Bor K × Unit {0}) Bool) (t : K → Bool) (f : F) (test : IsTest g t f) where
  asked_here : (n : ℕ) (key : K) (items : List (ℕ × K)) (rest answer : Option ℕ) (last : F) → (Asks g f items answer last → answer ≡ rest)
      → Asks g f ((n, key) ∷ items) answer last → answer ≡ cond (t key) (Some (n + 0)) rest
  asked_here n key items rest answer last next_ones (true, next, called, end) =
      let told = test.tells key true next called in grind arith
  asked_here n key items rest answer last next_ones (false, next, called, asks) =
      let told = test.tells key false next called in let later = next_ones (rw told.1 at asks) in grind arith

module _ {F K V : Type 0} (g : Mut F (Bor K × Unit {0}) Bool) (t : K → Bool) (f : F) (test : IsTest g t f) (hash : StarlarkHashValue) where
  abbrev named : List (ℕ × Entry K V) → List (ℕ × K)
  named ps = map {B = ℕ × K} (λ p. (p.0, entry_key p.1)) ps

  -- the first index, counted from n, whose entry passes the test
  abbrev index_from : ℕ → List (Entry K V) → Option ℕ
  index_from n es = option_map (λ i. n + i) (position_of hash t es)

  index_from-cons : (n : ℕ) (e : Entry K V) (es : List (Entry K V)) → index_from n (e ∷ es) ≡ cond (is_under hash e && t (entry_key e)) (Some (n + 0)) (index_from (n + 1) es)
  index_from-cons n e es = grind (arith, position-cons (stands_under hash t) e es)

  asked_from : (es : List (Entry K V)) (n : ℕ) (answer : Option ℕ) (last : F) → Asks g f (named (filter (λ p. is_under hash p.1) (enumerate_from n es))) answer last → answer ≡ index_from n es
  asked_from [] n answer last asks = asks.0
  asked_from (e ∷ es) n answer last asks =
      let later : List (ℕ × Entry K V) = filter (λ p. is_under hash p.1) (enumerate_from (n + 1) es) in
      (elim (is_under hash e) as (λ b. Asks g f (named (cond b ((n, e) ∷ later) later)) answer last → answer ≡ cond (b && t (entry_key e)) (Some (n + 0)) (index_from (n + 1) es)) [
        | true ↦ asked_here g t f test n (entry_key e) (named later) (index_from (n + 1) es) answer last (asked_from es (n + 1) answer last)
        | false ↦ asked_from es (n + 1) answer last
      ]) asks ∙ sym (index_from-cons n e es)

  -- the search returns the first index under the hash whose key passes the test
  pub asks-position_of : (es : List (Entry K V)) (answer : Option ℕ) (last : F) → Asks g f (keys_under hash es) answer last → answer ≡ position_of hash t es
  asks-position_of es answer last asks = grind (arith, asked_from es 0 answer last asks)
