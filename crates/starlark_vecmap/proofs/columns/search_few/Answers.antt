-- The lowest bit of the mask is the next index under the hash.
use Rattle.starlark_hash.proofs.Common.{refl, arith}
use Rattle.starlark_vecmap.proofs.Blocks.{next_nowhere, next_index}
use Rattle.starlark_vecmap.proofs.HashMatches.{index_asked, index_accepted, index_refused, none_left}
use Rattle.starlark_vecmap.proofs.columns.search_few.Goals as goal

pub offset_bounds-pairs-index : goal.offset_bounds-pairs-index
offset_bounds-pairs-index g c =
    let l = c.loop-mask in let next = next_index c.args.hash.0 c.args.hashes.now l.i l.mask (omega arith) l.invariant.reached.within l.invariant.masked c.loop-mask-test.true in
    omega (arith, next.0, l.invariant.reached.lengths)

pub bounds-pairs-index : goal.bounds-pairs-index
bounds-pairs-index g c =
    let l = c.loop-mask in let next = next_index c.args.hash.0 c.args.hashes.now l.i l.mask (omega arith) l.invariant.reached.within l.invariant.masked c.loop-mask-test.true in
    omega (arith, next.0, l.invariant.reached.lengths)

pub accepts-requires : goal.accepts-requires
accepts-requires g c =
    let l = c.loop-mask in let next = next_index c.args.hash.0 c.args.hashes.now l.i l.mask (omega arith) l.invariant.reached.within l.invariant.masked c.loop-mask-test.true in
    index_asked l.invariant.reached next.1 c.index-pairs-index.is _ refl

pub returns-then-accepts : goal.returns-then-accepts
returns-then-accepts g c =
    let l = c.loop-mask in let next = next_index c.args.hash.0 c.args.hashes.now l.i l.mask (omega arith) l.invariant.reached.within l.invariant.masked c.loop-mask-test.true in
    (c.accepts.new.self, index_accepted l.invariant.reached next.1 c.index-pairs-index.is _ refl c.accepts.new.self c.accepts.result c.if-accepts.true c.accepts.ensures)

pub loop-mask-preserved : goal.loop-mask-preserved
loop-mask-preserved g c =
    let l = c.loop-mask in let next = next_index c.args.hash.0 c.args.hashes.now l.i l.mask (omega arith) l.invariant.reached.within l.invariant.masked c.loop-mask-test.true in
    record {
      masked = next.2;
      reached = index_refused l.invariant.reached next.1 c.index-pairs-index.is _ refl c.accepts.new.self c.accepts.result c.if-accepts.false c.accepts.ensures next.0;
    }

pub returns : goal.returns
returns g c =
    let l = c.loop-mask in
    (l.accepts, none_left l.invariant.reached (next_nowhere c.args.hash.0 c.args.hashes.now l.i l.mask (omega arith) l.invariant.reached.within l.invariant.masked c.loop-mask-test.false))
