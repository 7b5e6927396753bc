use Rattle.starlark_hash.proofs.Common.{◌≡◌, ◌++◌, drop, map}
use Rattle.starlark_uses.specs.Spelling.{spelled}
use Rattle.starlark_uses.proofs.Copied.{marked}
use Rattle.starlark_uses.proofs.value.Value.+copy.Given as goal

abbrev pub invariant-loop-item : goal.invariant-loop-item
invariant-loop-item l = map spelled l.all.items ++ map spelled (drop l.item-index l.item-items) ≡ map spelled l.item-items

abbrev pub invariant-loop-name : goal.invariant-loop-name
invariant-loop-name l = map marked l.all.entries ++ map marked l.name-iterator ≡ map marked l.initial.name-iterator
