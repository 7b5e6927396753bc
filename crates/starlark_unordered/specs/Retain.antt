-- The precondition and the result of `retain`.
use Rattle.std.specs.Prelude.{◌≡◌, Bool, true, List}
use Rattle.std.specs.Borrow.{Bor, MutBor}
use Rattle.std.specs.Fn.{Mut, Takes, Called}
use Rattle.starlark_table.specs.Walk.{CanWalk}

module _ {F K V : Type 0} (g : Mut F (Bor K × (MutBor V × Unit {0})) (Bool × (MutBor V × Unit {0}))) where
  -- f may be called on a `&` to the pair's key and a `&mut` to its value
  abbrev pub TakesPair : F → K × V → Type 0
  TakesPair f p = (key : Bor K) (value : MutBor V) → key.now ≡ p.0 → value.now ≡ p.1 → Takes g f (key, (value, tt))

  -- a call of f on the pair p may answer `keeps` and leave f as f', and the pair as q, under the same key
  pub record AsksPair (f : F) (p : K × V) (keeps : Bool) (f' : F) (q : K × V) : Type 0 where
    pub key : Bor K
    pub value : MutBor V
    pub shows : (key.now ≡ p.0) × (value.now ≡ p.1)
    pub left : MutBor V
    pub called : Called g f (key, (value, tt)) (keeps, (left, tt)) f'
    pub leaves : q ≡ (p.0, left.now)

  -- f may be called on each of the pairs in turn, in any state that its earlier calls may leave
  abbrev pub CanAskPairs : List (K × V) → F → Type 0
  CanAskPairs = CanWalk TakesPair (λ f p f'. (keeps : Bool) × (q : K × V) × AsksPair f p keeps f' q)

  -- each call answers this test of the pair, and leaves the pair and f unchanged
  abbrev pub AnswersTest : F → (K × V → Bool) → Type 0
  AnswersTest f test = (p : K × V) (keeps : Bool) (left : F) (q : K × V) → AsksPair f p keeps left q → (keeps ≡ test p) × (q ≡ p) × (left ≡ f)

  -- each call keeps the pair, changes its value in this way, and leaves f unchanged
  abbrev pub LeavesChange : F → (V → V) → Type 0
  LeavesChange f change = (p : K × V) (keeps : Bool) (left : F) (q : K × V) → AsksPair f p keeps left q → (keeps ≡ true) × (q ≡ (p.0, change p.1)) × (left ≡ f)
