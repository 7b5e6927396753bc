-- What a search by a query returns, under the query's own hash or under a supplied one: the slot of the key, and its item.
use Rattle.starlark_hash.proofs.Common.{◌≡◌, ℕ, ◌<◌, ◌^◌, Bool, true, Option, Some, None, sym, ap, ◌∙◌, Bor, Mut, IsEquivalence, HashWrites, IsKeyTest, option_and_then, option_map, arith, nat_tests, and_parts}
use Rattle.starlark_hash.specs.HashValue.{hash_number, promoted}
use Rattle.starlark_hash.specs.declared.hash_value.StarlarkHashValue.{StarlarkHashValue}
use Rattle.starlark_hash.specs.Search.{Searches}
use Rattle.starlark_hash.proofs.SearchLemmas.{IsTest, test-refused, test-accepted}
use Rattle.starlark_table.specs.Table.{Table, members, items_under, item_in}
use Rattle.starlark_unordered.specs.Pairs.{found, pairs_of, has_own_hash, under_own, IsSlotOf}
use Rattle.starlark_unordered.specs.Sound.{IsKeyed, keyed, home_of}
use Rattle.starlark_unordered.proofs.Keys.{slot_of, own_of}
use Rattle.std.proofs.lemmas.Bool.{and_right, and_from}
use Rattle.starlark_table.proofs.TableLemmas.{member_at-items_under, members-member_at}
use Rattle.starlark_unordered.proofs.KeySearch.{same_test}

module _ {C K V : Type 0} (w : Mut C (Bor (K × V) × Unit {0}) Bool) (eq : K → K → Bool) (feeds : K → HashWrites) (laws : IsEquivalence eq) (t : K → Bool) (one : IsKeyTest eq t)
    (m : Table (K × V)) (keys : IsKeyed eq feeds (keyed (members m))) (f last : C) (test : IsTest w (λ (p : K × V). t p.0) f) (home : ℕ) (answer : Option ℕ)
    (search : Searches w (items_under home m) f answer last) where
  -- the slot that is found under the hash of each key that passes
  pub slot_by_query : ((k : K) → t k ≡ true → home_of feeds k ≡ home) → IsSlotOf t m answer
  slot_by_query own =
      slot_of eq feeds laws t one home m keys own answer
      (test-refused w (λ p. t p.0) f test _ answer last search) (λ n. test-accepted w (λ p. t p.0) f test _ answer last n search)

  -- the slot that is found under a supplied hash: equal keys have one own hash, and the slots found under the hash are those
  -- of keys that have it as their own
  pub slot_by_hashed : ((x y : K) → eq x y ≡ true → feeds x ≡ feeds y) → (hash : StarlarkHashValue) → hash_number hash < 2 ^ 32 → home ≡ promoted (hash_number hash) → IsSlotOf (under_own feeds hash t) m answer
  slot_by_hashed alike hash fits is =
      let own = has_own_hash feeds hash in
      slot_of eq feeds laws (under_own feeds hash t) (λ x y does. let both = and_parts (own x) (t x) does in grind (arith, one x y both.1, both.0, alike x y)) home m keys
      (λ k does. grind (arith, nat_tests, is, and_parts (own k) (t k) does)) answer
      (λ none q there. and_right (own q.1.0) (t q.1.0) (test-refused w (λ p. t p.0) f test _ answer last search none q there))
      (λ n found.
      let (x, there, does) = test-accepted w (λ p. t p.0) f test _ answer last n search found in
      let stands = own_of eq feeds (members m) (home, x) keys (members-member_at m n (home, x) (member_at-items_under home m (n, x) there)) in
      (x, there, and_from (own x.0) (t x.0) (grind (arith, nat_tests, same_test feeds hash fits x.0 home stands, is)) does))

-- the item in the slot of the key has the key's value
pub value_of-slot : {K V : Type 0} (t : K → Bool) (m : Table (K × V)) (slot : Option ℕ) → IsSlotOf t m slot → option_map (λ p. p.1) (option_and_then (item_in m) slot) ≡ found t (pairs_of m)
value_of-slot t m None none = sym none
value_of-slot t m (Some n) there = ap (option_map (λ p. p.1)) there.at ∙ sym there.found
