use Rattle.starlark_hash.proofs.Common.{◌+◌, sym, arith, is_lt}
use Rattle.starlark_vecmap.proofs.AscendingRange.{is_lt-told, ascends-noted, ascends-told}
use Rattle.starlark_vecmap.proofs.columns.ascend_at_once.Goals as goal

pub loop-i-preserved : goal.loop-i-preserved
loop-i-preserved g c =
    let at = c.args.low + c.loop-i.i in
    let x = c.index-pairs-low-in-loop-i in
    let y = c.index-pairs-low in
    ascends-noted (λ p q. is_lt (g.K.Ord.cmp p.0 q.0)) c.args.pairs.now c.args.low at x.result y.result (omega arith) x.is y.is
    _ _ c.loop-i.falls _ (omega arith) (omega arith) (omega arith)
    (is_lt-told g.K.Ord.cmp _ _ y.result.0 x.result.0 c.eq-falls.result c.cmp.result c.eq-falls.ensures c.cmp.ensures (λ j. (sym y.is j).0) (λ j. (sym x.is j).0))
    c.loop-i.invariant

pub returns : goal.returns
returns g c = ascends-told (λ p q. is_lt (g.K.Ord.cmp p.0 q.0)) c.args.pairs.now c.args.low _ _ c.loop-i.falls (omega arith) c.loop-i.invariant
