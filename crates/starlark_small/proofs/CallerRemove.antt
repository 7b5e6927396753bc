-- Look-ups after a removal by key or by index, and after `retain`.
use Rattle.starlark_hash.proofs.Common.{common_steps, ◌+◌, ◌≡◌, ℕ, zero, suc, Bool, true, false, List, [], ◌∷◌, length, get_or, remove, Some, None, is_some, refl, sym, ap, ◌∙◌, arith, ◌-◌, Option, slice_get, subst, ◌&&◌, IfSome, ◌==◌, option_map, HashWrites, IsEquivalence, nat_tests, get_or_from_slice_get, slice_get_within, length-remove, Bor, MutBor, Mut, position-Some}
use Rattle.starlark_hash.specs.declared.hash_value.StarlarkHashValue.{StarlarkHashValue}
use Rattle.starlark_hash.specs.HashValue.{hash_of, key_of, hashed, hash_number}
use Rattle.starlark_hash.specs.Entries.{Entry, IsSingle, match_of, value_at, without, position_of, entry_hash, entry_key, entry_value, pair_of, stands_under}
use Rattle.starlark_hash.proofs.PositionLemmas.{position-cons, position-within, position-None}
use Rattle.std.proofs.lemmas.List.Edits.{get_or-remove_below, get_or-remove_above}
use Rattle.starlark_small.proofs.CallerLookup.{none_among, removed_there, under, apart_other, is_some-found, same_key, none_found}
use Rattle.starlark_hash.specs.Lookup.{found, Writes}
use Rattle.std.specs.Map.Iter.{TakesLast}
pub use Rattle.core.proofs.iter.runs.Lists.{nth_seam as last_of}
use Rattle.starlark_hash.specs.Hasher.{own_hash}
use Rattle.starlark_small.specs.Lookup.{AreOwnEntries}
use Rattle.starlark_small.specs.Remove.{Removes, TakesOut}
use Rattle.starlark_small.specs.CompareLaws.{alike-laws}
use Rattle.starlark_small.specs.Map.{KeepsMemory, Map}
use Rattle.starlark_hash.specs.Retain.{Retains, CalledAtEntry}
use Rattle.starlark_small.proofs.CallerOwn.{own-removed}
use Rattle.starlark_small.proofs.Retained.{all_retained}

module _ {K V : Type 0} (eq : K → K → Bool) (laws : IsEquivalence eq) (hash : StarlarkHashValue) (passes : K → Bool) (one : (x y : K) → passes x ≡ true → passes y ≡ eq x y) where
  -- if no two entries have one hash and equal keys, at most one passes
  gone : (es : List (Entry K V)) (i : ℕ) → IsSingle eq es → position_of hash passes es ≡ Some i → position_of hash passes (remove es i) ≡ None
  gone es i single at = none_among (stands_under hash passes) (remove es i) (λ k d below.
      let here = position-Some (stands_under hash passes) es i d at in
      let apart = single i (k + 1) d in
      grind (arith, nat_tests, here.0, here.1, here.2 k, length-remove es i, get_or-remove_below es i d k, get_or-remove_above es i d k, apart, one (key_of (get_or es i d).0) (key_of (get_or es (k + 1) d).0)))

  -- after a removal from a list in which no two entries have one hash and equal keys, the key is not found under this hash,
  -- and each other key finds what it found
  pub writes-removed : (old new : List (Entry K V)) → IsSingle eq old → new ≡ without old (position_of hash passes old) → Writes eq passes hash old new None
  unfolding found
  writes-removed old new single put = rw put (
    grind (arith, common_steps, λ (i : ℕ). gone old i single),
    λ h other not. removed_there (under h (eq other)) (under hash passes) (apart_other eq laws hash passes one (hashed h other) not) old (position_of hash passes old) refl,
  )

  pub removes-without : (old new : Map K V) → IsSingle eq old.entries → new.entries ≡ without old.entries (position_of hash passes old.entries) → KeepsMemory old new → Removes eq passes hash old new
  removes-without old new single put kept = record {
    entries = put;
    updates = writes-removed old.entries new.entries single put;
    count = grind (arith, common_steps, put, is_some-found passes hash old.entries, length-remove old.entries, position-within (stands_under hash passes) old.entries);
    own = λ feeds own. rw put (grind (arith, common_steps, own, own-removed feeds old.entries));
    kept = kept;
  }

pub ruleset removed = (removes-without)

-- the item that was taken from the end was at the last index
pub last-taken : {X : Type 0} (s : List X) (o : Option X) (t : List X) → TakesLast (λ x. x) s o t → o ≡ slice_get s (length s - 1)
last-taken s None t took = ap (λ l. slice_get l (length l - 1)) (sym took.0)
last-taken s (Some x) t took = rw took (grind (arith, common_steps, last_of t x))

-- the hash of an entry is its key's own if that of each entry is
pub own-placed : {K V : Type 0} (feeds : K → HashWrites) (es : List (Entry K V)) (i : ℕ) (e : Entry K V) → slice_get es i ≡ Some e → AreOwnEntries feeds es → entry_hash e ≡ own_hash feeds (entry_key e)
unfolding AreOwnEntries
own-placed feeds es i e at own = rw (get_or_from_slice_get es i e e at) at (own i e (slice_get_within es i e at))

module _ {K V : Type 0} (eq : K → K → Bool) (laws : IsEquivalence eq) where
  -- an entry is at the first index with its hash and an equal key
  pub index-single : (es : List (Entry K V)) (i : ℕ) (e : Entry K V) → IsSingle eq es → slice_get es i ≡ Some e → match_of eq es e.0 ≡ Some i
  index-single [] i e single at = absurd (omega (arith, slice_get_within [] i e at))
  index-single (d ∷ es) zero e single at = grind (arith, common_steps, position-cons (stands_under e.0.hash (eq e.0.key)) d es, same_key eq laws e.0)
  index-single (d ∷ es) (suc i) e single at =
      let inside = slice_get_within es i e at in
      let apart = rw (get_or_from_slice_get es i e d at) at (single 0 (suc i) d (omega arith) (omega arith)) in
      let rest = index-single es i e (λ j k x below within. single (suc j) (suc k) x (omega arith) (omega arith)) at in
      grind (arith, common_steps, position-cons (stands_under e.0.hash (eq e.0.key)) d es, (alike-laws eq laws).symm e.0 d.0)

  -- the entry at an index was removed
  pub writes-taken : (old new : List (Entry K V)) (i : ℕ) (e : Entry K V) → IsSingle eq old → slice_get old i ≡ Some e → new ≡ remove old i
      → Writes eq (eq e.0.key) e.0.hash old new None
  writes-taken old new i e single at is =
      writes-removed eq laws e.0.hash (eq e.0.key) (laws.congr e.0.key) old new single
      (is ∙ ap (without old) (sym (index-single old i e single at)))

  pub found-placed : (es : List (Entry K V)) (i : ℕ) (e : Entry K V) → IsSingle eq es → slice_get es i ≡ Some e → found (eq e.0.key) e.0.hash es ≡ Some e.1
  unfolding found
  found-placed es i e single at = ap (value_at es) (index-single es i e single at) ∙ ap (option_map entry_value) at

  pub takes-out : (old new : Map K V) (i : ℕ) (e : Entry K V) → IsSingle eq old.entries → slice_get old.entries i ≡ Some e → new.entries ≡ remove old.entries i → TakesOut eq old new e.0.key e.1
  takes-out old new i e single at is =
      let es = old.entries in
      let taken = writes-taken es new.entries i e single at is in
      record {
        others = taken.1;
        was = λ feeds own. subst (λ h. found (eq e.0.key) h es ≡ Some e.1) (own-placed feeds es i e at own) (found-placed es i e single at);
        gone = λ feeds own. subst (λ h. Writes eq (eq e.0.key) h es new.entries None) (own-placed feeds es i e at own) taken;
      }

  -- the last entry was removed, if there was one
  pub takes-out_last : (old new : Map K V) (o : Option (Entry K V)) → IsSingle eq old.entries → TakesLast (λ e. e) old.entries o new.entries → IfSome (option_map pair_of o) (λ p. TakesOut eq old new p.0 p.1)
  takes-out_last old new None single took = tt
  takes-out_last old new (Some e) single took =
      takes-out old new (length new.entries) e single (rw took (last_of new.entries e)) (rw took (grind (arith, common_steps)))

module _ {F K V : Type 0} (g : Mut F (Bor K × (MutBor V × Unit {0})) (Bool × (MutBor V × Unit {0}))) (test : K → Bool) (hash : StarlarkHashValue) (f : F) (es kept : List (Entry K V)) where
  none-retained : Retains (CalledAtEntry g) f es kept → position_of hash test es ≡ None → position_of hash test kept ≡ None
  none-retained is none =
      none_among (stands_under hash test) kept
      (all_retained g (λ key. (hash_number (hash_of key) == hash_number hash) && test (key_of key) ≡ false) f es kept is (position-None (stands_under hash test) es none))

  -- a key that is found was found before
  pub found-retained : Retains (CalledAtEntry g) f es kept → is_some (found test hash kept) ≡ true → is_some (found test hash es) ≡ true
  found-retained is there = grind (arith, common_steps, none_found test hash kept, none-retained is, is_some-found test hash es)
