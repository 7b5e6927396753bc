-- An entry whose pair was written. The new pair, or a set's new element, replaces the old one.
use Rattle.starlark_hash.proofs.Common.{arith, ◌≡◌, ℕ, true, Option, Some, None, refl, ap, Bool-set, IfSome, slice_set, option_map, none-some, same_Some, is_some}
use Rattle.std.specs.declared.cmp.PartialEq as eq
use Rattle.std.specs.declared.hash.Hash as hash
use Rattle.starlark_table.specs.Table.{Table, item_in, member_at}
use Rattle.starlark_unordered.specs.Pairs.{pairs_of, with_value}
use Rattle.starlark_unordered.specs.RawEntry.{with_raw_key, with_key, IsInPlace}
use Rattle.starlark_unordered.specs.declared.raw_entry.RawOccupiedEntryMut.{RawOccupiedEntryMut}
use Rattle.starlark_unordered.specs.declared.unordered_set.raw_entry.RawOccupiedEntryMut as of_set
use Rattle.starlark_unordered.proofs.Keys.{member_of-item}
use Rattle.starlark_unordered.proofs.Slots.{apart_at}
use Rattle.starlark_unordered.specs.SetRawEntry.{with_raw_element}
use Rattle.starlark_unordered.specs.Set.{Set}
use Rattle.starlark_unordered.specs.Slots.{set_same}

module _ {K V : Type 0} {g : eq.Ghosts K} {h : hash.Ghosts K} (o : RawOccupiedEntryMut K V g h) where
  pub raw_key_put : (key : K) (n : Table (K × V)) → n ≡ with_key o.map.now o.slot key → (p : is_some (item_in n o.slot) ≡ true) → record { map = record o.map { now = n }; slot = o.slot; there = p } ≡ with_raw_key o key
  raw_key_put key n e = rw e (λ p. ap (λ q. record (with_raw_key o key) { there = q }) (Bool-set _ _ p (with_raw_key o key).there))

module _ {K V : Type 0} (m : Table (K × V)) (slot : ℕ) where
  -- the pair of a slot is replaced by another one under the same hash
  in_place : (f : K × V → K × V) (found : Option (K × V)) → item_in m slot ≡ found
      → IfSome found (λ p. IsInPlace p (f p) (pairs_of m) (pairs_of (record m { slots = slice_set m.slots slot (option_map (λ e. (e.0, f e.1)) (member_at m slot)) })))
  in_place f None is = tt
  in_place f (Some q) is =
      let (h, at) = member_of-item (member_at m slot) q is in
      let (before, after, was, written) = apart_at (λ (n : ℕ × (K × V)). n.1) m.slots slot (h, q) at in (before, after, was, written (λ e. (e.0, f e.1)))

  pub value_in_place : (w : V) → IfSome (item_in m slot) (λ p. IsInPlace p (p.0, w) (pairs_of m) (pairs_of (with_value m slot w)))
  value_in_place w = in_place (λ p. (p.0, w)) (item_in m slot) refl

  pub key_in_place : (key : K) → IfSome (item_in m slot) (λ p. IsInPlace p (key, p.1) (pairs_of m) (pairs_of (with_key m slot key)))
  key_in_place key = in_place (λ p. (key, p.1)) (item_in m slot) refl

-- in a set, the new element replaces the old one
pub element_in_place : {T : Type 0} (m : Table (T × Unit {0})) (slot : ℕ) (element was : T) (found : Option (T × Unit {0})) → item_in m slot ≡ found → option_map (λ p. p.0) found ≡ Some was
    → (n : Table (T × Unit {0})) → n ≡ with_key m slot element → IsInPlace (was, tt) (element, tt) (pairs_of m) (pairs_of n)
element_in_place m slot element was None is old n new = absurd (none-some was old)
element_in_place m slot element was (Some p) is old n new = rw (new, ← same_Some p.0 was old) (rw is at (key_in_place m slot element))

module _ {T : Type 0} {g : eq.Ghosts T} {h : hash.Ghosts T} (o : of_set.RawOccupiedEntryMut T g h) (element : T) where
  pub raw_element_put : (n : Set T) → n ≡ with_key o.map.now o.slot element → (p : is_some (item_in n o.slot) ≡ true) → record { map = record o.map { now = n }; slot = o.slot; there = p } ≡ with_raw_element o element
  raw_element_put n e = rw e (λ p. ap (λ q. record (with_raw_element o element) { there = q }) (Bool-set _ _ p (with_raw_element o element).there))

-- a key that was written is the one in its slot
pub key_shown : {K V : Type 0} (m : Table (K × V)) (slot : ℕ) (key : K) → is_some (item_in m slot) ≡ true → (n : Table (K × V)) → n ≡ with_key m slot key → option_map (λ p. p.0) (item_in n slot) ≡ Some key
key_shown m slot key there n new = rw new (grind (arith, set_same (option_map (λ e. (e.0, (key, e.1.1)))) refl m.slots slot, there))
