use Rattle.starlark_hash.proofs.Common.{◌≡◌, Some, refl, sym, ap, rules}
use Rattle.starlark_hash.specs.HashValue.{hash_of, key_of}
use Rattle.starlark_hash.specs.Entries.{position_of, with_value}
use Rattle.starlark_small.proofs.CallerEntry.{writes-with_value}
use Rattle.starlark_small.proofs.CallerLookup.{found_is, keys-set_value_at, set_value_at-found}
use Rattle.starlark_small.proofs.CallerOwn.{own-set_value_at}
use Rattle.starlark_small.proofs.small_map.SmallMap.get_mut_hashed.Goals as goal

pub returns-in-Some : goal.returns-in-Some
returns-in-Some g c =
    let test = g.Q.Query.stands_for (key_of c.args.key) in
    let hash = hash_of c.args.key in
    let old = c.args.self.now in
    let at : Some c.in-Some.index ≡ position_of hash test old.entries = search rules in (
      (
        refl,
        λ w. (
          ap (λ p. record old { entries = with_value old.entries p w }) at,
          keys-set_value_at old.entries c.in-Some.index w,
          λ there. writes-with_value g.K.PartialEq.eq g.met.K.Eq.laws hash test (g.met.Q.Query.respects_eq (key_of c.args.key)) old.entries _ w there (ap (λ p. with_value old.entries p w) at),
          λ feeds. own-set_value_at feeds old.entries c.in-Some.index w,
          λ same. ap (λ es. record old { entries = es }) (set_value_at-found test hash old.entries c.in-Some.index w (sym at) same),
        ),
        refl,
      ),
      record { writes_back = tt; value = found_is test hash old.entries _ (search rules); key = search rules },
    )
