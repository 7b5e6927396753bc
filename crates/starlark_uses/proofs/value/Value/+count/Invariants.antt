use Rattle.starlark_hash.proofs.Common.{◌≡◌, ◌-◌, ◌^◌, ◌+◌, ◌≤◌, min, drop}
use Rattle.starlark_uses.specs.Counts.{count, count_all}
use Rattle.starlark_uses.proofs.value.Value.+count.Given as goal

abbrev pub invariant-loop-value : goal.invariant-loop-value
invariant-loop-value l = (l.total ≤ 2 ^ 64 - 1) × (min (l.total + count_all (drop l.value-index l.value-items)) (2 ^ 64 - 1) ≡ min (count l.self) (2 ^ 64 - 1))

abbrev pub invariant-loop-value-2 : goal.invariant-loop-value-2
invariant-loop-value-2 l = (l.total ≤ 2 ^ 64 - 1) × (min (l.total + count_all l.value-iterator) (2 ^ 64 - 1) ≡ min (count l.self) (2 ^ 64 - 1))
