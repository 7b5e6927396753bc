-- What a closure keeps of a list and what it leaves in the items, and the calls of a closure on the key and the value
-- of an entry.
use Rattle.std.specs.Prelude.{◌≡◌, Bool, List, [], ◌∷◌, ◌++◌, if◌then◌else◌}
use Rattle.std.specs.List.{FoldsTo}
use Rattle.std.specs.Borrow.{Bor, MutBor}
use Rattle.std.specs.Fn.{Mut, Takes, Called}
use Rattle.starlark_hash.specs.Entries.{Entry, entry_key, entry_value}

-- `calls f x keeps y g`: a call of f on the item x may return `keeps`, and leave y as the item and g as the closure
module _ {F X : Type 0} (calls : F → X → Bool → X → F → Type 0) where
  -- a call of f on the item x may leave the closure as g
  abbrev pub MayLeave : F → X → F → Type 0
  MayLeave f x g = (keeps : Bool) × (y : X) × calls f x keeps y g

  -- `takes` holds for each item and each state in which the calls on the items before may have left the closure
  pub record TakesInTurn (takes : F → X → Type 0) (f : F) (xs : List X) : Type 0 where
    pub at : (before after : List X) (g : F) (x : X) → xs ≡ before ++ x ∷ after → FoldsTo MayLeave f before g → takes g x

  -- the closure was called once on each item, from the front, each time in the state that the call before left. `kept`
  -- are the items on which it returned true, as it left them
  abbrev pub Retains : F → List X → List X → Type 0
  Retains f [] kept = kept ≡ []
  Retains f (x ∷ xs) kept =
      (keeps : Bool) × (y : X) × (g : F) × (rest : List X) × calls f x keeps y g × Retains g xs rest × (kept ≡ (if keeps then y ∷ rest else rest))

module _ {F K V : Type 0} (g : Mut F (Bor K × (MutBor V × Unit {0})) (Bool × (MutBor V × Unit {0}))) where
  -- f may be called with a `&` to the entry's key and a `&mut` to its value
  abbrev pub TakesEntry : F → Entry K V → Type 0
  TakesEntry f e = (key : Bor K) (value : MutBor V) → key.now ≡ entry_key e → value.now ≡ entry_value e → Takes g f (key, (value, tt))

  -- a call of f with a `&` to the entry's key and a `&mut` to its value may return `keeps`, and leave the entry as d
  -- and the closure as f'
  pub record CalledAtEntry (f : F) (e : Entry K V) (keeps : Bool) (d : Entry K V) (f' : F) : Type 0 where
    pub key : Bor K
    pub value : MutBor V
    pub shows : (key.now ≡ entry_key e) × (value.now ≡ entry_value e)
    pub left : MutBor V
    pub called : Called g f (key, (value, tt)) (keeps, (left, tt)) f'
    pub leaves : d ≡ (e.0, left.now)
