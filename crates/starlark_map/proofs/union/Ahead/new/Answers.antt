use Rattle.starlark_hash.proofs.Common.{ap, length, sym, subst, arith, length-map}
use Rattle.starlark_hash.specs.Entries.{IsSingle}
use Rattle.starlark_hash.specs.Sort.{Ascends}
use Rattle.starlark_map.proofs.AscendingUnion.{ahead-of}
use Rattle.starlark_map.proofs.union.Ahead.new.Goals as goal

pub invariant_of-result : goal.invariant_of-result
invariant_of-result g c =
    let same = sym (ahead-of c.args.walk c.next-first.new.self c.next-first.result c.next-first.ensures.steps) in (
      omega (arith, simp length-map at (ap length same), c.requires.fits),
      subst (Ascends g.T.Ord.cmp) same c.requires.ascends,
      subst (IsSingle g.T.PartialEq.eq) same c.requires.single,
    )
