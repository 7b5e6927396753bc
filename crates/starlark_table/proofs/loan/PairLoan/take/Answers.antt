use Rattle.starlark_table.proofs.LentSlots.{next-full}
use Rattle.starlark_table.proofs.loan.PairLoan.take.Goals as goal

pub take_value-requires-clause-full : goal.take_value-requires-clause-full
take_value-requires-clause-full g c = next-full _ _ _ c.self.view_is c.self.invariant _ c.requires c.if-self-index.false
