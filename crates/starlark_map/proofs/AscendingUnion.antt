-- The union of two ascending lists, in ascending order: which element comes first, and what is left after it.
use Rattle.starlark_hash.proofs.Common.{◌≡◌, ◌+◌, Bool, true, false, cond, List, [], ◌∷◌, ◌++◌, map, length, get_or, Option, Some, refl, ap, arith, filter, drop, Bor, IsEquivalence, IsTotalOrder, HashWrites, keys_of, Ordering, length-append, length-map, map-id, All-append, All-cons, All-filter, All-head, All-tail, All-permutation}
use Rattle.std.specs.Prelude.{All}
use Rattle.std.specs.Map.Iter.{TakesFirst}
use Rattle.std.proofs.lemmas.Simd.{map-map}
use Rattle.starlark_hash.specs.declared.hashed.Hashed.{Hashed}
use Rattle.starlark_hash.specs.Hasher.{own_hash}
use Rattle.starlark_hash.specs.Entries.{Entry, IsSingle, entry_hash, entry_key}
use Rattle.starlark_hash.specs.Sort.{Ascends, insert_sorted, key_lt, sorted_by, sorted_by_key}
use Rattle.starlark_hash.proofs.EntryLemmas.{IsSingle-permutation}
use Rattle.starlark_hash.proofs.SortingLemmas.{IsPermutation-sorted_by, key_lt-order, length-sorted_by}
use Rattle.starlark_sets.specs.Difference.{difference, lacks}
use Rattle.starlark_sets.specs.Set.{Elements}
use Rattle.starlark_sets.specs.Union.{union}
use Rattle.starlark_hash.specs.Unit.{deref_hashed}
use Rattle.starlark_sets.proofs.Differences.{counts-union}
use Rattle.starlark_sets.proofs.Unions.{IsSingle-difference, IsSingle-union}
use Rattle.starlark_small.specs.Lookup.{AreOwnEntries}
use Rattle.starlark_map.proofs.AscendingKeys.{along_from, rest-above}
use Rattle.starlark_map.specs.SortedUnion.{GivesRise, OwnNext, RiseSteps, SortedUnion, ahead, drop_while, comes_first, elements_under, is_others, is_passed, rise, rise_rest, shown_element}

module _ {X : Type 0} (lt : X → X → Bool) where
  insert-first : (x : X) (xs : List X) → All (λ w. lt w x ≡ false) xs → insert_sorted lt x xs ≡ x ∷ xs
  insert-first x [] up = refl
  insert-first x (y ∷ ys) up = ap (λ b. cond b (y ∷ insert_sorted lt x ys) (x ∷ y ∷ ys)) (All-head (λ w. lt w x ≡ false) y ys up)

  -- an item is first in the sorted list if no later item is less
  sorted-first : (x : X) (xs : List X) → All (λ w. lt w x ≡ false) xs → sorted_by lt (x ∷ xs) ≡ x ∷ sorted_by lt xs
  sorted-first x xs up = insert-first x (sorted_by lt xs) (All-permutation (λ w. lt w x ≡ false) xs (sorted_by lt xs) (IsPermutation-sorted_by lt xs) up)

  -- an item is first in the sorted list if it is less than each before it and no later item is less
  sorted-middle : (x : X) (xs ys : List X) → All (λ w. lt x w ≡ true) xs → All (λ w. lt w x ≡ false) ys → sorted_by lt (xs ++ x ∷ ys) ≡ x ∷ sorted_by lt (xs ++ ys)
  sorted-middle x [] ys above up = sorted-first x ys up
  sorted-middle x (z ∷ zs) ys above up = rw (sorted-middle x zs ys (All-tail (λ w. lt x w ≡ true) z zs above) up, All-head (λ w. lt x w ≡ true) z zs above)

module _ {X : Type 0} (p : X → Bool) where
  -- the rest of a list after the items that pass begins with one that does not pass
  drop_while-head : (xs ys : List X) (y : X) → drop_while p xs ≡ y ∷ ys → p y ≡ false
  drop_while-head [] ys y is = cc
  drop_while-head (x ∷ xs) ys y is = grind (arith, drop_while-head xs ys y)

  -- a filter that keeps no passing item keeps the same items of that rest
  filter-drop_while : (q : X → Bool) → ((x : X) → p x ≡ true → q x ≡ false) → (xs : List X) → filter q (drop_while p xs) ≡ filter q xs
  filter-drop_while q out [] = refl
  filter-drop_while q out (x ∷ xs) = grind (arith, filter-drop_while q out xs, out x)

module _ {T : Type 0} {cmp : T → T → Ordering} (total : IsTotalOrder cmp) where
  pub before-all : (es : Elements T) (f : Entry T (Unit {0})) → Ascends cmp es → comes_first cmp es f ≡ true → All (λ w. key_lt cmp f w ≡ true) es
  before-all [] f up first = grind arith
  before-all (e ∷ es) f up first =
      All-cons (λ w. key_lt cmp f w ≡ true) e es first (λ k d inside. grind (arith, (key_lt-order total).chain f (get_or es k d) e, rest-above total e es up k d inside))

  none-before : (e : Entry T (Unit {0})) (es gs : Elements T) → Ascends cmp gs → is_others cmp (e ∷ es) gs ≡ false → All (λ w. key_lt cmp w e ≡ false) gs
  none-before e es [] up own = grind arith
  none-before e es (g ∷ gs) up own =
      All-cons (λ w. key_lt cmp w e ≡ false) g gs own (λ k d inside. (key_lt-order total).chain (get_or gs k d) g e (rest-above total g gs up k d inside) own)

module _ {T : Type 0} (eq : T → T → Bool) {cmp : T → T → Ordering} (total : IsTotalOrder cmp) where
  -- the next element is one of the other list
  other-first : (es gs there : Elements T) (f : Entry T (Unit {0})) → Ascends cmp es → Ascends cmp (f ∷ gs) → comes_first cmp es f ≡ true → lacks eq there f ≡ true
      → sorted_by_key cmp (es ++ difference eq (f ∷ gs) there) ≡ f ∷ sorted_by_key cmp (es ++ difference eq gs there)
  other-first es gs there f up over first lacking =
      rw lacking
      (sorted-middle (key_lt cmp) f es (difference eq gs there) (before-all total es f up first) (All-filter (lacks eq there) (λ w. key_lt cmp w f ≡ false) gs (rest-above total f gs over)))

  -- the next element is one of this list
  own-first : (e : Entry T (Unit {0})) (es gs there : Elements T) → Ascends cmp (e ∷ es) → Ascends cmp gs → is_others cmp (e ∷ es) gs ≡ false
      → sorted_by_key cmp ((e ∷ es) ++ difference eq gs there) ≡ e ∷ sorted_by_key cmp (es ++ difference eq gs there)
  own-first e es gs there up over own =
      sorted-first (key_lt cmp) e (es ++ difference eq gs there)
      (All-append (λ w. key_lt cmp w e ≡ false) es (difference eq gs there) (rest-above total e es up)
      (All-filter (lacks eq there) (λ w. key_lt cmp w e ≡ false) gs (none-before total e es gs over own)))

  skipped : (es fs there : Elements T) → difference eq (drop_while (is_passed eq cmp es there) fs) there ≡ difference eq fs there
  skipped es fs there = filter-drop_while (is_passed eq cmp es there) (lacks eq there) (λ f passes. grind arith) fs

  -- a step that gives an element of the other list
  pub step-other : (es fs there gs : Elements T) (h : Hashed (Bor T)) → Ascends cmp es → Ascends cmp (shown_element h ∷ gs)
      → drop_while (is_passed eq cmp es there) fs ≡ shown_element h ∷ gs → comes_first cmp es (shown_element h) ≡ true
      → RiseSteps eq cmp (record { left = es; right = fs; there = there }) (Some h.key) (record { left = es; right = gs; there = there })
  step-other es fs there gs h up over is first =
      let f = shown_element h in
      let lacking : lacks eq there f ≡ true = grind (arith, drop_while-head (is_passed eq cmp es there) fs gs f is) in
      (rw (← skipped es fs there, is, other-first es gs there f up over first lacking), rw (is, first))

  -- if the second list does not have the next element, the first list has it, or there is none
  pub step-own : (es fs there gs : Elements T) → Ascends cmp es → Ascends cmp gs → drop_while (is_passed eq cmp es there) fs ≡ gs → is_others cmp es gs ≡ false
      → OwnNext eq cmp (record { left = es; right = fs; there = there }) (record { left = es; right = gs; there = there })
  step-own [] fs there [] up over is own = (rw (← skipped [] fs there, is), refl, rw is)
  step-own [] fs there (g ∷ gs) up over is own = cc
  step-own (e ∷ es) fs there gs up over is own = (rw (← skipped (e ∷ es) fs there, is, own-first e es gs there up over own), refl, rw (is, own))

  -- a union gives an ascending list
  pub gives-rise : IsEquivalence eq → (es fs : Elements T) → IsSingle eq fs → Ascends cmp (rise eq cmp es fs)
      → GivesRise cmp (length es) (length fs) (rise_rest eq cmp (record { left = es; right = fs; there = es }))
  gives-rise laws es fs single up = record {
    count = simp (length-map, length-sorted_by (key_lt {V = Unit {0}} cmp)) (simp length-map at (counts-union eq laws es fs single));
    along = along_from total (rise eq cmp es fs) up;
  }

-- how many elements are to come
pub length-rest : {T : Type 0} (eq : T → T → Bool) (cmp : T → T → Ordering) (u : SortedUnion T) → length (rise_rest eq cmp u) ≡ length u.left + length (map entry_key (difference eq u.right u.there))
length-rest eq cmp u = simp (length-map, length-sorted_by (key_lt {V = Unit {0}} cmp), length-append)

-- the element that was taken from an iterator, followed by those that it has left, is what it had
pub ahead-of : {T : Type 0} (hs ks : List (Hashed T)) (h : Option (Hashed (Bor T))) → TakesFirst deref_hashed hs h ks → ahead h ks ≡ elements_under hs
ahead-of hs ks h taken = grind arith

-- what is left of an iterator after its first element, which is known, was taken
pub taken-first : {T : Type 0} (es ds : Elements T) (h : Hashed (Bor T)) (r : Option (Hashed (Bor T))) → es ≡ shown_element h ∷ drop 1 es → TakesFirst shown_element es r ds → es ≡ shown_element h ∷ ds
taken-first es ds h r first taken = grind arith

-- the elements that the iterators of two sets begin with
pub elements-of : {T : Type 0} (es : Elements T) (hs : List (Hashed T)) → hs ≡ keys_of es → elements_under hs ≡ es
elements-of es hs walk = simp (walk, map-map, map-id)

module _ {T : Type 0} (eq : T → T → Bool) (cmp : T → T → Ordering) (es fs : Elements T) where
  -- the union has no element twice
  pub rise-single : IsEquivalence eq → IsSingle eq es → IsSingle eq fs → IsSingle eq (rise eq cmp es fs)
  rise-single laws first second =
      IsSingle-permutation eq laws (union eq es fs) (rise eq cmp es fs) (IsSingle-union eq laws es fs first (IsSingle-difference eq fs es second))
      (IsPermutation-sorted_by (key_lt cmp) (union eq es fs))

  -- each element of the union is stored under its own hash, if both lists store theirs so
  pub rise-own : (feeds : T → HashWrites) → AreOwnEntries feeds es → AreOwnEntries feeds fs → AreOwnEntries feeds (rise eq cmp es fs)
  unfolding AreOwnEntries
  rise-own feeds first second =
      let own = λ (e : Entry T (Unit {0})). entry_hash e ≡ own_hash feeds (entry_key e) in
      All-permutation own (union eq es fs) (rise eq cmp es fs) (IsPermutation-sorted_by (key_lt cmp) (union eq es fs))
      (All-append own es (difference eq fs es) first (All-filter (lacks eq es) own fs second))
