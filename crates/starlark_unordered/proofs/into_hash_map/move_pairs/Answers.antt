use Rattle.starlark_hash.proofs.Common.{◌≡◌, ◌∷◌, map, rules}
use Rattle.starlark_unordered.proofs.PairMoves.{moves_on}
use Rattle.starlark_unordered.proofs.into_hash_map.move_pairs.Goals as goal

pub loop-key-preserved-in-Ok : goal.loop-key-preserved-in-Ok
loop-key-preserved-in-Ok g c =
    let here : c.loop-key.walk ≡ (c.in-Some.field-0-0, (c.in-Some.key, c.in-Some.value)) ∷ c.next.new.self = search rules in
    let inv = c.loop-key.invariant in
    moves_on _ g.met.K.Eq.laws (c.in-Some.key, c.in-Some.value) (map (λ m. m.1) c.next.new.self) _ _ (rw here at inv.distinct) c.in-Ok._old c.in-Ok.ensures.old c.in-Ok.ensures.entries _ (rw here at inv.same)

pub loop-key-preserved : goal.loop-key-preserved
loop-key-preserved g c =
    let here : c.loop-key.walk ≡ (c.in-Some.field-0-0, (c.in-Some.key, c.in-Some.value)) ∷ c.next.new.self = search rules in
    let inv = c.loop-key.invariant in
    moves_on _ g.met.K.Eq.laws (c.in-Some.key, c.in-Some.value) (map (λ m. m.1) c.next.new.self) _ _ (rw here at inv.distinct) c.in-Ok._old c.in-Ok.ensures.old c.in-Ok.ensures.entries _ (rw here at inv.same)
