use Rattle.starlark_hash.proofs.Common.{refl, rules, of_calls}
use Rattle.starlark_vec2.proofs.Positions.{takes_at, compares_at}
use Rattle.starlark_vec2.proofs.vec2.Vec2.compare_at.Goals as goal

pub compare-requires : goal.compare-requires
compare-requires g c = takes_at g.F.FnMut _ _ _ _ _ _ c.requires c.in-Some-Some.ensures c.in-Some-Some.ensures'

pub returns-in-Some-Some : goal.returns-in-Some-Some
returns-in-Some-Some g c =
    let at = c.in-Some-Some in
    compares_at g.F.FnMut c.args.self.now.pairs c.args.compare.now c.args.i c.args.j _ _ c.compare.result c.compare.new.self at.ensures at.ensures'
    (record { left = at.x; right = at.y; shows_left = refl; shows_right = refl; called = search (rules, of_calls) })
