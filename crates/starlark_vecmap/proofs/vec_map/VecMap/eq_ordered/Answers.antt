use Rattle.starlark_vecmap.proofs.ColumnComparison.{same_ordered-columns}
use Rattle.starlark_vecmap.proofs.vec_map.VecMap.eq_ordered.Goals as goal

pub returns-then-eq : goal.returns-then-eq
returns-then-eq g c =
    let hashes = rw (c.seconds.ensures, c.seconds-2.ensures, c.if-eq.true) at c.eq.ensures in
    rw (← c.self.view_is, ← c.other.view_is, same_ordered-columns g.K.PartialEq.eq g.V.PartialEq.eq c.self.inside.columns.pairs c.other.inside.columns.pairs, ← hashes)
    (rw (c.firsts.ensures, c.firsts-then-eq.ensures) at c.eq-then-eq.ensures)

pub returns-else-eq : goal.returns-else-eq
returns-else-eq g c =
    let hashes = rw (c.seconds.ensures, c.seconds-2.ensures, c.if-eq.false) at c.eq.ensures in
    rw (← c.self.view_is, ← c.other.view_is, same_ordered-columns g.K.PartialEq.eq g.V.PartialEq.eq c.self.inside.columns.pairs c.other.inside.columns.pairs, ← hashes) c.if-eq.false
