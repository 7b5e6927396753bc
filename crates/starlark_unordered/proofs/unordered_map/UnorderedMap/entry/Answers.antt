use Rattle.starlark_hash.proofs.Common.{refl}
use Rattle.starlark_unordered.proofs.Callers.{writes-slot, part-found, trades-slot}
use Rattle.starlark_unordered.proofs.unordered_map.UnorderedMap.entry.Goals as goal

pub returns-in-Some : goal.returns-in-Some
returns-in-Some g c =
    let at = c.in-Some.ensures in
    let writes = writes-slot _ g.met.K.Eq.laws _ (λ x y. g.met.K.Eq.laws.congr c.args.key x y) _ _ at in
    record { same_map = refl; entry = (refl, at, writes, λ measure. part-found measure (g.K.PartialEq.eq c.args.key) _, trades-slot _ _ _ at) }
