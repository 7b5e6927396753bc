use Rattle.starlark_hash.proofs.Common.{◌∙◌, ap, map, refl}
use Rattle.starlark_hash.specs.Entries.{pair_of}
use Rattle.starlark_hash.specs.HashValue.{key_of}
use Rattle.starlark_dict.specs.Dict.{dict_of, memory}
use Rattle.starlark_dict.proofs.Changes.{updated-written}
use Rattle.starlark_dict.proofs.OwnPairs.{found-query, unique-own, written-query}
use Rattle.starlark_dict.proofs.dict.Dict.get_mut_hashed.Goals as goal

pub invariant_of-self-lent : goal.invariant_of-self-lent
invariant_of-self-lent g c = λ _.
    let lent = c.get_mut_hashed.follows in
    ((λ w. (lent.holds w).3 g.K.Hash.hash_input c.self.invariant), rw lent.holds-at-none c.self.invariant)

pub returns : goal.returns
returns g c =
    let eq = g.K.PartialEq.eq in
    let old = c.self.inside.map in
    let es = old.entries in
    let own = c.self.invariant in
    let lent = c.get_mut_hashed.follows in
    let unique = unique-own eq g.K.Hash.hash_input g.met.K.Hash.respects_eq es c.iter_hashed.ensures.single own in
    rw (← c.self.view_is) (
      (
        refl,
        λ w. updated-written eq g.met.K.Eq.laws (g.Q.Query.stands_for (key_of c.args.key)) (g.met.Q.Query.respects_eq (key_of c.args.key)) (dict_of old) (dict_of (lent.lender w)) w
            (ap (λ m. map pair_of m.entries) (lent.holds w).0 ∙ written-query g.Q.Query.stands_for g.Q.Hash.hash_input g.K.Hash.hash_input g.met.Q.HashQuery.feeds_alike c.args.key c.requires es w own)
            (ap (λ m. memory (dict_of m)) (lent.holds w).0) (ap (λ m. m.room) (lent.holds w).0) unique,
        ap dict_of lent.holds-at-none,
      ),
      record { writes_back = tt; value = c.get_mut_hashed.ensures.value ∙ found-query g.Q.Query.stands_for g.Q.Hash.hash_input g.K.Hash.hash_input g.met.Q.HashQuery.feeds_alike c.args.key c.requires es own; unique = unique },
    )
