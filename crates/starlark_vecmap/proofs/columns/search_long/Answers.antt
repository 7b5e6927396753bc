use Rattle.starlark_hash.proofs.Common.{refl, sym}
use Rattle.starlark_vecmap.proofs.HashMatches.{index_asked, index_accepted, index_refused, none_left}
use Rattle.starlark_vecmap.proofs.columns.search_long.Goals as goal

pub accepts-requires : goal.accepts-requires
accepts-requires g c = index_asked c.loop-index.invariant (rw c.get-number.ensures.number at (sym c.in-Some.ensures.index)) c.index-pairs-index.is _ refl

pub returns-then-accepts : goal.returns-then-accepts
returns-then-accepts g c = (
  c.accepts.new.self,
  index_accepted c.loop-index.invariant (rw c.get-number.ensures.number at (sym c.in-Some.ensures.index)) c.index-pairs-index.is _ refl c.accepts.new.self c.accepts.result c.if-accepts.true c.accepts.ensures,
)

pub loop-index-preserved : goal.loop-index-preserved
loop-index-preserved g c =
    index_refused c.loop-index.invariant (rw c.get-number.ensures.number at (sym c.in-Some.ensures.index)) c.index-pairs-index.is _ refl
    c.accepts.new.self c.accepts.result c.if-accepts.false c.accepts.ensures c.in-Some.ensures.within

pub returns : goal.returns
returns g c = (c.loop-index.accepts, none_left c.loop-index.invariant (rw c.get-number.ensures.number at (sym c.in_default.ensures.index)))
