use Rattle.starlark_hash.proofs.Common.{arith, ◌≡◌, ◌+◌, [], count_trailing_zeros}
use Rattle.starlark_table.specs.Layout.{IsVacancy}
use Rattle.starlark_table.specs.Table.{holders_in}
use Rattle.starlark_table.proofs.Vacancy.{vacant_at_home}
use Rattle.starlark_table.proofs.probe.vacancy.Given.{Over}
use Rattle.starlark_table.proofs.probe.vacancy.Goals as goal
use Rattle.starlark_table.proofs.probe.vacancy.Goals.{Else-empty-eq0}

vacant : (g : Over) (c : Else-empty-eq0 g) → (holders_in c.args.hash c.args.slots.now ≡ []) × IsVacancy c.args.hash c.args.slots.now (c.home-start.result + count_trailing_zeros 64 c.slots_with-empty.result)
vacant g c =
    vacant_at_home _ _ _ c.requires.tagged c.args.mask _ _ c.requires.some c.requires.mask
    c.home-start.ensures c.number-number.ensures c.requires.in_place _ _ _
    c.tag.ensures c.slots_with-same.ensures c.if-same-ne0.false c.slots_with-empty.ensures c.if-empty-eq0.false

pub overflow_add-result : goal.overflow_add-result
overflow_add-result g c =
    let within = (vacant g c).1.within in
    omega (arith, within, c.requires.mask c.requires.some, c.ranges.mask)

pub returns-clause-none : goal.returns-clause-none
returns-clause-none g c = (vacant g c).0

pub returns-clause-vacant : goal.returns-clause-vacant
returns-clause-vacant g c = (vacant g c).1
