use Rattle.starlark_hash.proofs.Common.{◌≡◌, ◌++◌}
use Rattle.std.specs.List.{fold, flat_map}
use Rattle.starlark_vec2.proofs.vec2.compare.Vec2Hash.hash.Given as goal

-- feeding the pairs that are left leads to the same final state
abbrev pub invariant-loop-first : goal.invariant-loop-first
invariant-loop-first g l =
    fold g.H.Hasher.write l.state (flat_map (λ p. g.A.Hash.hash_input p.0 ++ g.B.Hash.hash_input p.1) l.first-iterator)
    ≡ fold g.H.Hasher.write l.initial.state (flat_map (λ p. g.A.Hash.hash_input p.0 ++ g.B.Hash.hash_input p.1) l.self.pairs)
