-- What a retention of entries makes of their pairs.
use Rattle.starlark_hash.proofs.Common.{[], ◌∙◌, ◌∷◌, ◌≡◌, Bool, Bor, FoldsTo, List, Mut, MutBor, ap, arith, common_steps, cond, false, filter, if◌then◌else◌, map, map-append, refl, sym, true}
use Rattle.std.specs.Map.Calls.{CallableOnEachPair, CalledAtPair, RetainsPairs, SomeCallAtPair, TakesPair}
use Rattle.starlark_hash.specs.Entries.{Entry, entry_key, entry_value, pair_of}
use Rattle.starlark_hash.specs.Retain.{CalledAtEntry, MayLeave, Retains, TakesEntry, TakesInTurn}
use Rattle.starlark_small.specs.Retain as small
use Rattle.starlark_dict.specs.Retain.{with_each_value}

module _ {F K V : Type 0} (g : Mut F (Bor K × (MutBor V × Unit {0})) (Bool × (MutBor V × Unit {0}))) where
  -- a call at an entry is one at its pair
  pub at-pair : (f : F) (e : Entry K V) (keeps : Bool) (d : Entry K V) (left : F) → CalledAtEntry g f e keeps d left → CalledAtPair g f (entry_key e) (entry_value e) keeps (entry_value d) left
  at-pair f e keeps d left called = record { key = called.key; value = called.value; shows = called.shows; left = called.left; called = called.called; leaves = sym (ap entry_value called.leaves) }

  -- a call changes no key
  pub same-key : (f : F) (e : Entry K V) (keeps : Bool) (d : Entry K V) (left : F) → CalledAtEntry g f e keeps d left → (w : V) → entry_value d ≡ w → d ≡ (e.0, w)
  same-key f e keeps d left called w is = λ i. ((called.leaves i).0, is i)

  folds-pairs : (f : F) (es : List (Entry K V)) (last : F) → FoldsTo (MayLeave (CalledAtEntry g)) f es last → FoldsTo (SomeCallAtPair (CalledAtPair g)) f (map pair_of es) last
  folds-pairs f [] last folds = folds
  folds-pairs f (e ∷ es) last (next, (keeps, d, called), rest) = (next, (keeps, entry_value d, at-pair f e keeps d next called), folds-pairs next es last rest)

  pub takes-pairs : (f : F) (es : List (Entry K V)) → CallableOnEachPair (CalledAtPair g) (TakesPair g) f (map pair_of es) → TakesInTurn (CalledAtEntry g) (TakesEntry g) f es
  takes-pairs f es can = record {
    at = λ before after last e is folds key value shows_key shows_value.
        can.at (map pair_of before) (map pair_of after) last (entry_key e) (entry_value e) (ap (map pair_of) is ∙ map-append pair_of before (e ∷ after)) (folds-pairs f before last folds) key value shows_key shows_value;
  }

  pub retains-pairs : (f : F) (es kept : List (Entry K V)) → Retains (CalledAtEntry g) f es kept → RetainsPairs (CalledAtPair g) f (map pair_of es) (map pair_of kept)
  retains-pairs f [] kept none = ap (map pair_of) none
  retains-pairs f (e ∷ es) kept (keeps, d, left, rest, called, others, is) = (
    keeps,
    entry_value d,
    left,
    map pair_of rest,
    at-pair f e keeps d left called,
    retains-pairs left es rest others,
    ap (map pair_of) is ∙ chosen keeps ∙ ap (λ x. cond keeps (pair_of x ∷ map pair_of rest) (map pair_of rest)) (same-key f e keeps d left called (entry_value d) refl),
  )
    where
      chosen : (b : Bool) → map pair_of (if b then d ∷ rest else rest) ≡ cond b (pair_of d ∷ map pair_of rest) (map pair_of rest)
      chosen true = refl
      chosen false = refl

module _ {K V : Type 0} where
  pub pairs-filtered : (test : K × V → Bool) (es : List (Entry K V)) → map pair_of (filter (λ e. test (pair_of e)) es) ≡ filter test (map pair_of es)
  pairs-filtered test [] = refl
  pairs-filtered test (e ∷ es) = grind (arith, common_steps, pairs-filtered test es)

  pub pairs-with_each_value : (value : K × V → V) (es : List (Entry K V)) → map pair_of (small.with_each_value (λ e. value (pair_of e)) es) ≡ with_each_value value (map pair_of es)
  unfolding small.with_each_value with_each_value
  pairs-with_each_value value [] = refl
  pairs-with_each_value value (e ∷ es) = ap (λ l. (entry_key e, value (pair_of e)) ∷ l) (pairs-with_each_value value es)
