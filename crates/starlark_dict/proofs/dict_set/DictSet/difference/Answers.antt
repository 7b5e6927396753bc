use Rattle.starlark_hash.proofs.Common.{Bool, ap, arith, filter, is_member, length, not, subst, sym, ◌∙◌}
use Rattle.std.specs.List.{IsDistinct}
use Rattle.std.specs.Map.Iter.{deref}
use Rattle.std_collections.proofs.DistinctSets.{IsDistinct-filter}
use Rattle.std_collections.proofs.IterRuns.{shows_in_order}
use Rattle.std_collections.proofs.SetLists.{filter_is_IsDifference, length-filter}
use Rattle.starlark_dict.proofs.dict_set.DictSet.difference.Goals as goal

pub returns : goal.returns
returns g c =
    let eq = g.T.PartialEq.eq in
    let xs = c.args.self.now.keys in
    let ys = c.args.other.now.keys in
    let e = c.iter.ensures in
    let lacks : g.row.T.Denot → Bool = λ k. not (is_member eq ys k) in
    let rest = ap (filter lacks) e.elements in
    let bound = length-filter lacks xs in
    record {
      rest = rest;
      members = λ q. ap (λ l. is_member eq l q) rest ∙ filter_is_IsDifference g.met.T.Eq.laws xs ys q;
      unique = subst (IsDistinct eq) (sym rest) (IsDistinct-filter eq lacks xs e.unique);
      bound = omega (arith, ap length rest, bound);
      fits = omega (arith, ap length rest, bound, e.fits);
      runs = shows_in_order deref;
    }
