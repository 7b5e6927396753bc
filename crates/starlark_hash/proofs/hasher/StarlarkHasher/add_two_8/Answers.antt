use Rattle.starlark_hash.proofs.Common.{arith, refl}
use Rattle.starlark_hash.proofs.HasherLemmas.{adds_two}
use Rattle.starlark_hash.proofs.hasher.StarlarkHasher.add_two_8.Goals as goal

pub returns : goal.returns
returns c = adds_two _ c.args.self.now c.add_8-2.new.self c.args.bytes.now c.requires.few refl (λ h. grind arith) (λ h k. grind arith) (λ h. grind arith)
