use Rattle.starlark_hash.proofs.Common.{ap, get_or_from_slice_get}
use Rattle.starlark_small.proofs.index.find.fn.find_in.find.Goals as goal

pub returns : goal.returns
returns g c = λ p there.
    let same = get_or_from_slice_get c.captures.pairs.now c.args.i.now p c.index-pairs-i.result there in record { shown = _; shows = ap (λ r. r.0) same; called = c.eq.ensures }
