use Rattle.starlark_hash.proofs.Common.{ap, arith, length}
use Rattle.starlark_hash.specs.Entries.{position_of}
use Rattle.starlark_hash.specs.HashValue.{hash_of, key_of}
use Rattle.starlark_runs.proofs.MemoryLemmas.{length-with_value}
use Rattle.starlark_runs.proofs.runs.change.Goals as goal

pub returns-in-Some-clause-kept : goal.returns-in-Some-clause-kept
returns-in-Some-clause-kept g c =
    let es = c.args.map.now.entries in
    let left = (c.get_mut_hashed.follows.holds c.replace.new.dest).0 in
    let index = position_of (hash_of c.as_ref.result) (g.K.PartialEq.eq (key_of c.as_ref.result).now) es in (
      omega (arith, ap (λ m. length m.entries) left, ap (λ m. m.room) left, length-with_value es index c.replace.new.dest),
      ap (λ m. m.capacity) left,
      ap (λ m. m.indexed) left,
    )
