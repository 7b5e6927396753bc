use Rattle.std.specs.List.{list_all}
use Rattle.std.specs.Prelude.{◌≡◌, nat_le}
use Rattle.starlark_dict.specs.Dict.{values}
use Rattle.program_visits.proofs.are_since.Given as goal

abbrev pub invariant-loop-last : goal.invariant-loop-last
invariant-loop-last l = list_all (nat_le l.time) l.last-iterator ≡ list_all (nat_le l.time) (values l.visits)
