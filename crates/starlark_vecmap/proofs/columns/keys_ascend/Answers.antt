use Rattle.starlark_hash.proofs.Common.{length, arith, is_lt}
use Rattle.starlark_vecmap.proofs.AscendingRange.{ascends-part, ascends-joined, ascends-whole}
use Rattle.starlark_vecmap.proofs.columns.keys_ascend.Goals as goal

pub returns-then-not-ascend_one_by_one : goal.returns-then-not-ascend_one_by_one
returns-then-not-ascend_one_by_one g c = λ all. c.if-not-ascend_one_by_one.ensures (ascends-part (λ p q. is_lt (g.K.Ord.cmp p.0 q.0)) c.args.pairs.now 0 (length c.args.pairs.now) 0 _ (omega arith) (omega arith) all)

pub returns-then-not-ascend_at_once : goal.returns-then-not-ascend_at_once
returns-then-not-ascend_at_once g c = λ all. c.if-not-ascend_at_once.ensures (ascends-part (λ p q. is_lt (g.K.Ord.cmp p.0 q.0)) c.args.pairs.now 0 (length c.args.pairs.now) _ _ (omega arith) (omega arith) all)

pub loop-last-preserved : goal.loop-last-preserved
loop-last-preserved g c =
    record {
      within = omega arith;
      ascend = ascends-joined (λ p q. is_lt (g.K.Ord.cmp p.0 q.0)) c.args.pairs.now 0 c.loop-last.last _ c.loop-last.invariant.ascend c.if-not-ascend_at_once.ensures;
    }

pub returns : goal.returns
returns g c = ascends-whole (λ p q. is_lt (g.K.Ord.cmp p.0 q.0)) c.args.pairs.now 0 c.loop-last.last _ _ (omega arith) c.loop-last.invariant.ascend c.ascend_one_by_one-2.ensures
