-- What a closure does to the members of a table, in the order of iteration.
use Rattle.std.specs.Prelude.{◌≡◌, ℕ, Bool, List, [], ◌∷◌, ◌++◌, take, drop, slice_range, Option, Some, None}
use Rattle.std.specs.Borrow.{Bor, MutBor}
use Rattle.std.specs.Fn.{Mut, Takes, TakesAt, CalledAt, CalledAtMut}
use Rattle.std.specs.List.{FoldsTo}

-- a closure may be called on each of the items in turn, in any state that its earlier calls may have left
pub record CanWalk {F X : Type 0} (takes : F → X → Type 0) (leaves : F → X → F → Type 0) (items : List X) (f : F) : Type 0 where
  pub at : (before : List X) (x : X) (after : List X) (later : F) → items ≡ before ++ x ∷ after → FoldsTo leaves f before later → takes later x

module _ {F T : Type 0} (g : Mut F (Bor T × Unit {0}) T) where
  -- f may be called on each of the items in turn
  abbrev pub CanReplace : List T → F → Type 0
  CanReplace = CanWalk (TakesAt g) (λ f x f'. (y : T) × CalledAt g f x y f')

  -- f is called on the item of each member in turn, and its result is stored in the member's slot; slots and hashes are kept
  abbrev pub ReplacesEach : F → List (Option (ℕ × T)) → List (Option (ℕ × T)) → F → Type 0
  ReplacesEach f [] new last = (new ≡ []) × (last ≡ f)
  ReplacesEach f (None ∷ old) new last = (rest : List (Option (ℕ × T))) × (new ≡ None ∷ rest) × ReplacesEach f old rest last
  ReplacesEach f (Some (h, x) ∷ old) new last =
      (y : T) × (next : F) × (rest : List (Option (ℕ × T)))
      × CalledAt g f x y next × (new ≡ Some (h, y) ∷ rest) × ReplacesEach next old rest last

  -- f replaces the items from one slot up to another, and the other slots are kept
  pub record ReplacesWithin (f : F) (old new : List (Option (ℕ × T))) (last : F) (from to : ℕ) : Type 0 where
    pub before : take from new ≡ take from old
    pub items : ReplacesEach f (slice_range old from to) (slice_range new from to) last
    pub after : drop to new ≡ drop to old

module _ {F T : Type 0} (g : Mut F (MutBor T × Unit {0}) (Bool × (MutBor T × Unit {0}))) where
  -- f may be called on a `&mut` to this item
  abbrev pub TakesAtMut : F → T → Type 0
  TakesAtMut f x = (lent : MutBor T) → lent.now ≡ x → Takes g f (lent, tt)

  -- f may be called on a `&mut` to each of the items in turn
  abbrev pub CanRetain : List T → F → Type 0
  CanRetain = CanWalk TakesAtMut (λ f x f'. (keeps : Bool) × (y : T) × CalledAtMut g f x keeps f' y)

  -- f is called on a `&mut` to a member's item, answers whether the member is kept, and leaves another item under its hash.
  -- With `RetainsInTurn` of std over all members, this defines `retain`.
  pub record AsksMember (f : F) (m : ℕ × T) (keeps : Bool) (f' : F) (n : ℕ × T) : Type 0 where
    pub hash : n.0 ≡ m.0
    pub called : CalledAtMut g f m.1 keeps f' n.1
