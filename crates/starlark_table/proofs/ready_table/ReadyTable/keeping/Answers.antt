use Rattle.starlark_hash.proofs.Common.{arith}
use Rattle.starlark_table.proofs.Load.{sound-all_empty}
use Rattle.starlark_table.proofs.ready_table.ReadyTable.keeping.Goals as goal

pub empty_slots-requires : goal.empty_slots-requires
empty_slots-requires g c = let fits = c.in-Some.ensures.fits in omega arith

pub invariant_of-result : goal.invariant_of-result
invariant_of-result g c =
    (sound-all_empty c.in_ok-slots.slots c.in_ok-slots.tags c.in-Some.count c.in_ok-slots.ensures.slots c.in_ok-slots.ensures.tags c.in-Some.ensures.some c.in-Some.ensures.doubled).0

pub returns-clause-empty : goal.returns-clause-empty
returns-clause-empty g c =
    (sound-all_empty c.in_ok-slots.slots c.in_ok-slots.tags c.in-Some.count c.in_ok-slots.ensures.slots c.in_ok-slots.ensures.tags c.in-Some.ensures.some c.in-Some.ensures.doubled).1
