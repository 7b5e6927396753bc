-- The union of two ascending lists, in ascending order.
use Rattle.std.specs.Prelude.{◌≡◌, ℕ, Bool, true, false, not, ◌&&◌, List, [], ◌∷◌, ◌++◌, Option, Some, None, if◌then◌else◌, drop, length, map}
use Rattle.std.specs.Borrow.{Bor}
use Rattle.std.specs.Iterator.{YieldsFirstRef}
use Rattle.std.specs.Iterator.Runs.{EveryRun, ItemsMapTo}
use Rattle.std.specs.Map.Iter.{deref}
use Rattle.std.specs.declared.cmp.Ordering.{Ordering}
use Rattle.starlark_hash.specs.declared.hashed.Hashed.{Hashed}
use Rattle.starlark_hash.specs.Entries.{Entry, entry_key}
use Rattle.starlark_hash.specs.Sort.{Ascends, key_lt, sorted_by_key}
use Rattle.starlark_sets.specs.Difference.{difference, lacks}
use Rattle.starlark_sets.specs.Set.{Elements}
use Rattle.starlark_sets.specs.Union.{CountsEither, union}
use Rattle.starlark_hash.specs.Unit.{deref_hashed}
use Rattle.starlark_map.specs.Sorted.{AscendsAlong}

-- what is left of each list, and the whole first list, in which the second list's elements are looked up
pub record SortedUnion (T : Type 0) : Type 0 where
  pub left : Elements T
  pub right : Elements T
  pub there : Elements T

module _ {T : Type 0} where
  -- the element of a set that a `Hashed<&T>` refers to
  abbrev pub shown_element : Hashed (Bor T) → Entry T (Unit {0})
  shown_element h = (deref_hashed h, tt)

  -- the elements of a set with these hashes and items
  abbrev pub elements_under : List (Hashed T) → Elements T
  elements_under hs = map (λ h. (h, tt)) hs

  -- the element that was taken from an iterator beforehand, followed by those that the iterator has left
  abbrev pub ahead : Option (Hashed (Bor T)) → List (Hashed T) → Elements T
  ahead None hs = []
  ahead (Some h) hs = shown_element h ∷ elements_under hs

  -- what is left after the first list's first element was taken
  abbrev pub after_own : SortedUnion T → SortedUnion T
  after_own u = record u { left = drop 1 u.left }

  -- the second list is what the first one has behind this element, or all of the first if no element is given
  abbrev pub Follows : Option (Hashed (Bor T)) → Elements T → Elements T → Type 0
  Follows None es there = there ≡ es
  Follows (Some h) es there = (ds : Elements T) × (there ≡ ds ++ shown_element h ∷ es)

-- a union of lists of these lengths gives these items: as many as the union has, and none is greater than a later one
pub record GivesRise {T : Type 0} (cmp : T → T → Ordering) (first second : ℕ) (items : List T) : Type 0 where
  pub count : CountsEither first second (length items)
  pub along : AscendsAlong cmp items

-- the rest of the list from the first item on that does not pass
abbrev pub drop_while : {X : Type 0} → (X → Bool) → List X → List X
drop_while p [] = []
drop_while p (x ∷ xs) = if p x then drop_while p xs else x ∷ xs

module _ {T : Type 0} (cmp : T → T → Ordering) where
  -- whether an element comes before all that is left of the first list, or nothing is left of that list
  abbrev pub comes_first : Elements T → Entry T (Unit {0}) → Bool
  comes_first [] f = true
  comes_first (e ∷ es) f = key_lt cmp f e

  -- whether the next element is one of the second list
  abbrev pub is_others : Elements T → Elements T → Bool
  is_others es [] = false
  is_others es (f ∷ fs) = comes_first es f

  -- whether an element comes before all that an ascending list has behind this element
  abbrev pub ComesNext : Option (Hashed (Bor T)) → Elements T → Entry T (Unit {0}) → Type 0
  ComesNext last there f = (es : Elements T) × Ascends cmp there × Follows last es there × (comes_first es f ≡ true)

module _ {T : Type 0} (eq : T → T → Bool) (cmp : T → T → Ordering) where
  -- one list and the elements of the other that it lacks, in ascending order: of equal elements the first list's come first,
  -- and those of one list keep their order
  abbrev pub rise : Elements T → Elements T → Elements T
  rise es fs = sorted_by_key cmp (union eq es fs)

  -- the elements that are still to come
  abbrev pub rise_rest : SortedUnion T → List T
  rise_rest u = map entry_key (sorted_by_key cmp (u.left ++ difference eq u.right u.there))

  -- The first of these elements, and then what is still to come when the first list has the others left. If there is no
  -- element, nothing is to come.
  abbrev pub own_from : Elements T → SortedUnion T → List T
  own_from [] u = []
  own_from (e ∷ es) u = entry_key e ∷ rise_rest (record u { left = es })

  -- the elements that are still to come, if the next is one of the first list or there is none
  abbrev pub own_rest : SortedUnion T → List T
  own_rest u = own_from u.left u

  -- whether an element of the second list is skipped: the first list has it, and it comes before what is left of the first
  -- list
  abbrev pub is_passed : Elements T → Elements T → Entry T (Unit {0}) → Bool
  is_passed es there f = comes_first cmp es f && not (lacks eq there f)

  -- What is left after a step. The elements of the second list that are skipped are gone. Then the second list's first is
  -- taken if it comes before what is left of the first list, and otherwise the first list's first.
  abbrev pub after_step : SortedUnion T → SortedUnion T
  after_step u =
      let fs = drop_while (is_passed u.left u.there) u.right in
      if is_others cmp u.left fs then record u { right = drop 1 fs } else record u { left = drop 1 u.left; right = fs }

  -- t is s without the skipped elements, and the next element is one of the first list or there is none
  abbrev pub OwnNext : SortedUnion T → SortedUnion T → Type 0
  OwnNext s t = (rise_rest s ≡ own_rest t) × (rise_rest (after_own t) ≡ drop 1 (own_rest t)) × (after_own t ≡ after_step s)

  -- a step returns the first element to come, and skips those of the second list that come before it and are not to come
  abbrev pub RiseSteps : SortedUnion T → Option (Bor T) → SortedUnion T → Type 0
  RiseSteps s r t = YieldsFirstRef rise_rest s r t × (t ≡ after_step s)

  -- each run of `next` returns the elements that were still to come, in order
  abbrev pub ShowsRise : Type 0
  ShowsRise = EveryRun RiseSteps (λ p. ItemsMapTo p deref (rise_rest p.from))
