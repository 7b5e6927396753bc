use Rattle.starlark_hash.proofs.Common.{◌≡◌, ◌∙◌, [], ◌∷◌, length, ap, arith, refl, rules, length_permutation, Takes}
use Rattle.starlark_hash.specs.HashValue.{hash_number, promoted}
use Rattle.starlark_table.proofs.ClosureCalls.{walk_asks, walk_on}
use Rattle.starlark_unordered.proofs.ValueMapping.{goes_on}
use Rattle.starlark_unordered.proofs.map_values.map_members.Goals as goal

pub f-value-requires : goal.f-value-requires
f-value-requires g c =
    let here : c.loop-hash.walk ≡ (promoted (hash_number c.in-Some.hash), (c.in-Some.key, c.in-Some.value)) ∷ c.next_kept.new.self = search rules in
    walk_asks (λ f p. Takes g.F.FnMut f (p.1, tt)) _ (c.in-Some.key, c.in-Some.value) _ c.loop-hash.f (rw here at c.loop-hash.invariant.callable)

pub loop-hash-preserved : goal.loop-hash-preserved
loop-hash-preserved g c =
    let here : c.loop-hash.walk ≡ (promoted (hash_number c.in-Some.hash), (c.in-Some.key, c.in-Some.value)) ∷ c.next_kept.new.self = search rules in
    let before = c.loop-hash.invariant in
    let put = c.insert_reserved.ensures in
    record {
      room = omega (arith, ap length here, length_permutation _ _ put.added, put.room, before.room);
      same = put.room ∙ before.same;
      callable = walk_on (λ f p. Takes g.F.FnMut f (p.1, tt)) _ (c.in-Some.key, c.in-Some.value) _ c.loop-hash.f c.f-value.new.self (c.f-value.result, c.f-value.ensures) (rw here at before.callable);
      goes = goes_on _ _ _ _ _ _ _ _ _ _ _ (rw here at before.goes) c.f-value.ensures put.added;
    }

pub returns : goal.returns
returns g c =
    let none : c.loop-hash.walk ≡ [] = search rules in
    let (all, maps, moved) = (rw none at c.loop-hash.invariant.goes).ends [] c.loop-hash.f (refl, refl) in
    record { maps = record { room = c.loop-hash.invariant.same; maps = (c.loop-hash.f, all, maps, moved) } }
