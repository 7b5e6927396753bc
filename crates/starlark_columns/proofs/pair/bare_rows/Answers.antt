use Rattle.std.proofs.Common.{rules}
use Rattle.starlark_columns.proofs.ItemsAtFront.{front_empties}
use Rattle.starlark_columns.proofs.pair.bare_rows.Goals as goal

pub returns : goal.returns
returns g c = let r = c.bare_pair-firsts.result in let is = c.bare_pair-firsts.ensures in let one = front_empties r.1.cells c.args.count is.1 in let other = front_empties r.2.cells c.args.count is.2 in
    record { fronts = (one.0, other.0); items = (one.1, other.1); cells = (one.2, other.2); block = search rules; spot = search rules }
