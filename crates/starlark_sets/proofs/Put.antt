-- What look-ups find after a set inserted an element for a query, and what the calls that show or try an element answer.
use Rattle.starlark_hash.proofs.Common.{◌≡◌, ℕ, Bool, true, false, List, [], ◌∷◌, ◌++◌, length, Option, Some, None, Result, Ok, Err, OnOk, OnErr, IfOk, IfErr, IfSome, MatchOption, MatchResult, IsErr, IsTrue, is_some, slice_get, refl, subst, sym, ap, ◌∙◌, arith, IsEquivalence, HashWrites, option_map, length_push, same_Some, nat_tests, false≢true, IsOk, ◌+◌, if◌then◌else◌}
use Rattle.std.proofs.Common.{Bor}
use Rattle.std.specs.Option.{unwrap_or}
use Rattle.starlark_hash.specs.declared.hashed.Hashed.{Hashed}
use Rattle.starlark_hash.specs.declared.no_room.NoRoom.{NoRoom}
use Rattle.starlark_hash.specs.declared.hash_value.StarlarkHashValue.{StarlarkHashValue}
use Rattle.starlark_hash.specs.Hasher.{own_hash}
use Rattle.starlark_hash.specs.HashValue.{hashed, hash_of, key_of}
use Rattle.starlark_hash.specs.Entries.{entry_at, entry_key, match_of, position_of, stands_under, value_at}
use Rattle.starlark_hash.specs.Lookup.{found, Writes}
use Rattle.starlark_hash.specs.Insert.{insert_entry}
use Rattle.starlark_small.specs.Insert.{IsInserted, IsRefused}
use Rattle.starlark_small.specs.Lookup.{AreOwn, NamesIndex, UpdatesBy, contains}
use Rattle.starlark_small.proofs.CallerLookup.{is_some-found, names-index, none_found, position_of-match, pushed_first}
use Rattle.starlark_small.proofs.CallerOwn.{own-inserted, own-same}
use Rattle.starlark_small.proofs.CallerInsert.{writes-inserted}
use Rattle.starlark_sets.specs.Insert.{AddsAt, AddsFor, IsShown, PutsElementFor, ShowsPut}
use Rattle.starlark_sets.specs.TryInsert.{AnswersTry, IsRefusal, ShowsEqual, Tries, is_occupied}
use Rattle.starlark_sets.specs.Set.{Set, element_at}
use Rattle.starlark_sets.specs.declared.ordered_set.try_insert.TryInsertError.{TryInsertError}
use Rattle.starlark_sets.proofs.Callers.{key_stands}

-- two `()` are one
unit_there : (o : Option (Unit {0})) → is_some o ≡ true → o ≡ Some tt
unit_there o there = grind arith

last_of : {X : Type 0} (xs : List X) (x : X) → slice_get (xs ++ x ∷ []) (length xs) ≡ Some x
last_of [] x = refl
last_of (y ∷ xs) x = last_of xs x

module _ {Q T : Type 0} (equivalent : Q → T → Bool) (query : Q) (hash : StarlarkHashValue) (old new : Set T) (i : ℕ) (p : Bor T) where
  shown_at : (index : Option ℕ) → position_of hash (equivalent query) old.entries ≡ index
      → MatchOption index ((i ≡ length old.entries) × ((element : T) × IsTrue (equivalent query element) × IsInserted old new (hashed hash element) tt)) (λ j. (i ≡ j) × (new ≡ old))
      → option_map entry_key (slice_get new.entries i) ≡ Some p.now
      → MatchOption index (IsTrue (equivalent query p.now) × IsInserted old new (hashed hash p.now) tt) (λ j. (element_at old (position_of hash (equivalent query) old.entries) ≡ Some p.now) × (new ≡ old))
  shown_at None at h is =
      let e = h.1.0 in
      let there : Some e ≡ Some p.now = sym (rw (h.1.2.entries, h.0) (ap (option_map entry_key) (last_of old.entries (hashed hash e, tt)))) ∙ is in
      subst (λ x. IsTrue (equivalent query x) × IsInserted old new (hashed hash x) tt) (same_Some e p.now there) (h.1.1, h.1.2)
  shown_at (Some j) at h is = (
    ap (element_at old) at ∙ ap (λ k. option_map entry_key (slice_get old.entries k)) (sym h.0) ∙ ap (λ (m : Set T). option_map entry_key (slice_get m.entries i)) (sym h.1) ∙ is,
    h.1,
  )

  -- what is said of an index holds of the element that is lent there
  shown-for : (E : Type 0) → AddsAt {E = E} equivalent hash old new query (Ok i) → option_map entry_key (slice_get new.entries i) ≡ Some p.now → AddsFor {E = E} equivalent hash old new query (Ok p)
  shown-for E adds is = shown_at (position_of hash (equivalent query) old.entries) refl adds is

module _ {Q T : Type 0} (eq : T → T → Bool) (laws : IsEquivalence eq) (equivalent : Q → T → Bool) (feeds : Q → HashWrites) (query : Q)
    (one : (x y : T) → equivalent query x ≡ true → equivalent query y ≡ eq x y) (old new : Set T) where
  abbrev test : T → Bool
  test = equivalent query

  abbrev hash : StarlarkHashValue
  hash = own_hash feeds query

  put_for : (e : T) → test e ≡ true → position_of hash test old.entries ≡ None → new.entries ≡ old.entries ++ (hashed hash e, tt) ∷ [] → new.entries ≡ insert_entry eq old.entries (hashed hash e) tt
  put_for e does none is = rw (sym (position_of-match eq test one (hashed hash e) does old.entries) ∙ none) is

  written_for : (e : T) → test e ≡ true → new.entries ≡ insert_entry eq old.entries (hashed hash e) tt → Writes eq test hash old.entries new.entries (Some tt)
  unfolding found
  written_for e does put =
      let w = writes-inserted eq laws old.entries new.entries (hashed hash e) tt put in
      (ap (value_at new.entries) (position_of-match eq test one (hashed hash e) does new.entries) ∙ w.0, λ h other apart. w.1 h other (sym (one e other does) ∙ apart))

  -- what an insertion for a query says by look-ups, beside the index that it returns
  pub record PutsAt {E : Type 0} (r : Result ℕ E) : Type 0 where
    pub index : IfOk r (λ i. NamesIndex test hash new (Some i))
    pub equal : IfOk r (λ i. IfSome (option_map entry_key (slice_get new.entries i)) (λ element. test element ≡ true))
    pub there : contains equivalent feeds old query ≡ true → IsOk r × (new ≡ old)
    pub last : IfOk r (λ i. contains equivalent feeds old query ≡ false → i ≡ length old.entries)
    pub updates : OnOk r (UpdatesBy eq equivalent feeds old new query (Some tt))
    pub count : OnOk r (length new.entries ≡ length old.entries + (if contains equivalent feeds old query then 0 else 1))
    pub own : (stored : T → HashWrites) → ((element : T) → test element ≡ true → feeds query ≡ stored element) → AreOwn stored old → AreOwn stored new
    pub lacking : OnErr r (contains equivalent feeds old query ≡ false)
    pub unchanged : OnErr r (new.entries ≡ old.entries)

  puts_at : {E : Type 0} (index : Option ℕ) → position_of hash test old.entries ≡ index → (r : Result ℕ E)
      → MatchOption index
      (MatchResult r (λ i. (i ≡ length old.entries) × ((element : T) × IsTrue (test element) × IsInserted old new (hashed hash element) tt)) (λ _. IsRefused old new))
      (λ j. MatchResult r (λ i. (i ≡ j) × (new ≡ old)) (λ _. ⊥))
      → PutsAt r
  puts_at None at (Ok i) h =
      let e = h.1.0 in let does : test e ≡ true = h.1.1 in let is = h.1.2.entries in let put = put_for e does at is in let lacking = ap is_some (none_found test hash old.entries at) in
      let passes : stands_under {V = Unit {0}} hash test (hashed hash e, tt) ≡ true = grind (arith, nat_tests, does) in
      let now : position_of hash test new.entries ≡ Some i = rw (is, h.0) (pushed_first (stands_under hash test) old.entries (hashed hash e, tt) at passes) in record {
        index = names-index test hash new (Some i) (sym now);
        equal = rw (is, h.0, last_of old.entries (hashed hash e, tt)) does;
        there = λ there. absurd (false≢true (sym lacking ∙ there));
        last = λ _. h.0;
        updates = written_for e does put;
        count = grind (arith, lacking, ap length is, length_push old.entries (hashed hash e, tt));
        own = λ stored alike. own-inserted stored eq old.entries new.entries (hashed hash e) tt put (λ j. own_hash (λ (_ : T). alike e does j) e);
        lacking = tt;
        unchanged = tt;
      }
  puts_at None at (Err e) h =
      let lacking = ap is_some (none_found test hash old.entries at) in record {
        index = tt;
        equal = tt;
        there = λ there. absurd (false≢true (sym lacking ∙ there));
        last = tt;
        updates = tt;
        count = tt;
        own = λ stored alike. own-same stored old.entries new.entries h.entries;
        lacking = lacking;
        unchanged = h.entries;
      }
  puts_at (Some j) at (Ok i) h =
      let same = ap (λ (m : Set T). m.entries) h.1 in let there : is_some (found test hash old.entries) ≡ true = rw (← is_some-found test hash old.entries, at) refl in
      let now : position_of hash test new.entries ≡ Some i = rw (same, h.0) at in record {
        index = names-index test hash new (Some i) (sym now);
        equal = rw now at (key_stands test hash new.entries (option_map entry_key (entry_at new.entries (position_of hash test new.entries))) refl).2;
        there = λ _. (refl, h.1);
        last = λ lacking. absurd (false≢true (sym lacking ∙ there));
        updates = (ap (found test hash) same ∙ unit_there (found test hash old.entries) there, λ under other apart. ap (found (eq other) under) same);
        count = grind (arith, there, ap length same);
        own = λ stored alike. own-same stored old.entries new.entries same;
        lacking = tt;
        unchanged = tt;
      }
  puts_at (Some j) at (Err e) h = absurd h

  pub puts-at : {E : Type 0} (r : Result ℕ E) → AddsAt equivalent hash old new query r → PutsAt r
  puts-at r adds = puts_at (position_of hash test old.entries) refl r adds

  -- what is said of the index is said of the element that is lent there, done or refused
  pub puts-for : {E : Type 0} (index : Result ℕ E) (r : Result (Bor T) E) → AddsAt equivalent hash old new query index → IsShown new.entries index r → PutsElementFor eq equivalent feeds old new query r
  puts-for {E} (Ok i) (Ok p) adds is =
      let put = puts-at {E = E} (Ok i) adds in
      record { equal = rw is at put.equal; updates = put.updates; count = put.count; own = put.own; unchanged = tt; lacking = tt; set = shown-for equivalent query hash old new i p E adds is }
  puts-for (Ok i) (Err f) adds is = absurd is
  puts-for (Err e) (Ok p) adds is = absurd is
  puts-for {E} (Err e) (Err f) adds is = let put = puts-at {E = E} (Err e) adds in record { equal = tt; updates = tt; count = tt; own = put.own; unchanged = put.unchanged; lacking = put.lacking; set = adds }

module _ {T : Type 0} (eq : T → T → Bool) (laws : IsEquivalence eq) (element : Hashed T) (old : Set T) where
  -- what is lent is the element that was found, or else this one
  pub shows-put : (r : Result (Bor T) (NoRoom T)) → IfOk r (λ p. p.now ≡ unwrap_or (element_at old (match_of eq old.entries element)) (key_of element))
      → OnErr r (is_some (found (eq (key_of element)) (hash_of element) old.entries) ≡ false) → IfErr r (λ refused. refused.0 ≡ key_of element) → ShowsPut eq old element r
  shows-put r is lacking handed =
      let stands = key_stands (eq (key_of element)) (hash_of element) old.entries (element_at old (match_of eq old.entries element)) refl in
      record { shown = rw (← stands.0) is; equal = grind (arith, laws.refl (key_of element), stands.2); lacking = lacking; handed_back = handed }

module _ {T : Type 0} (eq : T → T → Bool) (element : Hashed T) (old new : Set T) where
  answered_at : (index : Option ℕ) (there : Option T) (b : Bool) (r : Result (Unit {0}) (TryInsertError T))
      → MatchOption index (MatchResult r (λ _. IsInserted old new element tt) (λ _. IsRefused old new × (old.room ≡ 0))) (λ _. IsErr r × (new ≡ old)) → IfErr r (IsRefusal there (key_of element))
      → is_some index ≡ b → is_some there ≡ b → IfSome there (λ k. eq (key_of element) k ≡ true)
      → OnOk r (b ≡ false) × IfErr r (λ e. b ≡ is_occupied e) × IfErr r (ShowsEqual eq (key_of element)) × IfErr r (λ e. is_occupied e ≡ false → old.room ≡ 0)
  answered_at index there b r tries told found there_is passes = grind arith

  -- what `try_insert` returns
  pub answers-try : (r : Result (Unit {0}) (TryInsertError T)) → Tries eq old new element r → IfErr r (IsRefusal (element_at old (match_of eq old.entries element)) (key_of element))
      → AnswersTry eq old element r
  answers-try r tries told =
      let stands = key_stands (eq (key_of element)) (hash_of element) old.entries (element_at old (match_of eq old.entries element)) refl in
      let all = answered_at (match_of eq old.entries element) _ _ r tries told (is_some-found (eq (key_of element)) (hash_of element) old.entries) stands.1 stands.2 in
      record { lacking = all.0; there = all.1; equal = all.2; refused = rw (← stands.0) told; full = all.3 }
