-- The calls of a closure on both parts of a pair.
use Rattle.std.specs.Prelude.{◌≡◌, Bool}
use Rattle.std.specs.Borrow.{MutBor}
use Rattle.std.specs.Fn.{Mut, Takes, Called}

module _ {F A B : Type 0} (g : Mut F (MutBor A × (MutBor B × Unit {0})) (Bool × (MutBor A × (MutBor B × Unit {0})))) where
  -- f may be called with `&mut`s to both parts of this pair
  abbrev pub TakesBoth : F → A × B → Type 0
  TakesBoth f p = (first : MutBor A) (second : MutBor B) → first.now ≡ p.0 → second.now ≡ p.1 → Takes g f (first, (second, tt))

  -- a call of f with `&mut`s to both parts of p may return `keeps`, and leave the pair as q and the closure as f2
  pub record CalledAtBoth (f : F) (p : A × B) (keeps : Bool) (q : A × B) (f2 : F) : Type 0 where
    pub first : MutBor A
    pub second : MutBor B
    pub shows : (first.now ≡ p.0) × (second.now ≡ p.1)
    pub first_left : MutBor A
    pub second_left : MutBor B
    pub called : Called g f (first, (second, tt)) (keeps, (first_left, (second_left, tt))) f2
    pub leaves : (first_left.now ≡ q.0) × (second_left.now ≡ q.1)
