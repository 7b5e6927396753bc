-- What an iterator that writes the values of a map leaves.
use Rattle.starlark_hash.proofs.Common.{Bool}
use Rattle.starlark_vecmap.proofs.WrittenValues.{keys-with_values, length-with_values}
use Rattle.starlark_small.specs.Lend.{KeepsAllButValues}
use Rattle.starlark_small.specs.Map.{Map}
use Rattle.starlark_small.proofs.CallerOwn.{own-with_values}
use Rattle.starlark_small.proofs.CallerIter.{found-with_values}

pub keeps-all_but_values : {K V : Type 0} (eq : K → K → Bool) (m : Map K V) → KeepsAllButValues eq m
keeps-all_but_values eq m = record {
  keys = keys-with_values m.entries;
  length = length-with_values m.entries;
  members = λ ws under key. found-with_values (eq key) under m.entries ws;
  own = λ ws feeds. own-with_values feeds m.entries ws;
}
