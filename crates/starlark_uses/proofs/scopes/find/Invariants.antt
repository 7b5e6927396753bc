use Rattle.starlark_hash.proofs.Common.{◌≡◌, take}
use Rattle.starlark_uses.specs.Bindings.{found}
use Rattle.starlark_uses.proofs.scopes.find.Given as goal

abbrev pub invariant-loop-i : goal.invariant-loop-i
invariant-loop-i g l = found (take l.i l.scopes) l.name ≡ found l.scopes l.name
