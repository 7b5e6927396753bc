use Rattle.starlark_hash.proofs.Common.{refl, ap, Bool-set}
use Rattle.starlark_unordered.specs.RawEntry.{with_raw_value}
use Rattle.starlark_unordered.proofs.raw_entry.RawOccupiedEntryMut.get_mut.Goals as goal

pub returns : goal.returns
returns g c =
    let o = c.args.self.now in
    ((refl, λ w. ap (λ p. record (with_raw_value o w) { there = p }) (Bool-set _ _ _ (with_raw_value o w).there)), record { writes_back = tt; value = c.value_at_mut.ensures.value })
