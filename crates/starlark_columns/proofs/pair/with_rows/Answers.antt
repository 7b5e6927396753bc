use Rattle.std.proofs.Common.{rules}
use denote.Memory.{lone}
use Rattle.starlark_columns.proofs.Layouts.{skipped_exact}
use Rattle.starlark_columns.proofs.ItemsAtFront.{front_empties}
use Rattle.starlark_columns.proofs.pair.with_rows.Goals as goal

pub returns : goal.returns
returns g c = let r = c.in_ok-address in let is = r.ensures in let one = front_empties r.firsts.cells c.args.count is.1 in let other = front_empties r.seconds.cells c.args.count is.2 in
    record { fronts = (one.0, other.0); items = (one.1, other.1); cells = (one.2, other.2); block = search rules; spot = search rules; succeeds = search rules }

pub allocate_pair-requires-clause-offset : goal.allocate_pair-requires-clause-offset
allocate_pair-requires-clause-offset g c = let l = c.laid_out-layout in
    skipped_exact (lone g.row.A.mir) (lone g.row.B.mir) c.args.count l.result.size l.result.align l.ensures c.if-layout.false
