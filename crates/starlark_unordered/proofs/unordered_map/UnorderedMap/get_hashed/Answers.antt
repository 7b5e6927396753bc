use Rattle.starlark_hash.proofs.Common.{◌≡◌, Some, arith, rules, common_steps}
use Rattle.std.specs.Option.{option_copied}
use Rattle.starlark_hash.specs.HashValue.{key_of}
use Rattle.starlark_unordered.specs.Lookup.{get_under}
use Rattle.starlark_unordered.proofs.CallerLookup.{finds-under}
use Rattle.starlark_unordered.proofs.unordered_map.UnorderedMap.get_hashed.Goals as goal

pub returns-in_err-value : goal.returns-in_err-value
returns-in_err-value g c =
    let is : option_copied c.from_residual.result ≡ get_under g.Q.Query.stands_for g.K.Hash.hash_input c.args.self.now c.args.key = first_of (search rules, grind (arith, common_steps)) in
    let finds = finds-under _ _ _ _ g.met.K.Hash.respects_eq (g.met.Q.Query.respects_eq (key_of c.args.key)) g.met.K.Eq.laws c.args.self.now _ is in
    record { value = is; found = finds.found; own = finds.own; member = finds.member }

pub returns : goal.returns
returns g c =
    let is : Some c.in_ok-value.field-0.now.1 ≡ get_under g.Q.Query.stands_for g.K.Hash.hash_input c.args.self.now c.args.key = first_of (search rules, grind (arith, common_steps)) in
    let finds = finds-under _ _ _ _ g.met.K.Hash.respects_eq (g.met.Q.Query.respects_eq (key_of c.args.key)) g.met.K.Eq.laws c.args.self.now _ is in
    record { value = is; found = finds.found; own = finds.own; member = finds.member }
