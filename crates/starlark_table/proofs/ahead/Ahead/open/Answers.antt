use Rattle.starlark_table.proofs.FilledSlots.{filled-past_range}
use Rattle.starlark_table.proofs.FullBits.{window_done}
use Rattle.starlark_table.proofs.ahead.Ahead.open.Goals as goal

pub first_full-requires-clause-some : goal.first_full-requires-clause-some
first_full-requires-clause-some g c =
    let left = c.requires.left in
    let none = window_done _ _ _ _ _ left c.if-self-eq0.true in
    rw (← filled-past_range _ _ _ left.to none) c.requires.some
