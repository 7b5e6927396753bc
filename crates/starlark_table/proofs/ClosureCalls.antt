-- A closure that is called on each item of a list.
use Rattle.starlark_hash.proofs.Common.{List, ◌∷◌, [], refl, ap}
use Rattle.starlark_table.specs.Walk.{CanWalk}

module _ {F X : Type 0} (takes : F → X → Type 0) (leaves : F → X → F → Type 0) where
  pub walk_asks : (x : X) (items : List X) (f : F) → CanWalk takes leaves (x ∷ items) f → takes f x
  walk_asks x items f can = can.at [] x items f refl refl

  pub walk_on : (x : X) (items : List X) (f f' : F) → leaves f x f' → CanWalk takes leaves (x ∷ items) f → CanWalk takes leaves items f'
  walk_on x items f f' left can = record { at = λ before y after later is calls. can.at (x ∷ before) y after later (ap (λ l. x ∷ l) is) (f', left, calls) }
