use Rattle.starlark_hash.proofs.Common.{◌<◌, length, get_or, Some, sym, ap, ◌∙◌, arith, length-map, slice_get-get_or}
use Rattle.starlark_hash.specs.Entries.{set_value_at}
use Rattle.starlark_vec2.specs.PairList.{seconds_of}
use Rattle.starlark_vecmap.specs.EntryList.{entry_list, entry_of}
use Rattle.starlark_vecmap.proofs.WrittenValue.{value_written, entry_read}
use Rattle.starlark_vecmap.proofs.vec_map.VecMap.get_unchecked_mut.Goals as goal

pub returns : goal.returns
returns g c =
    let ps = c.self.inside.columns.pairs in
    let i = c.args.index in
    let pair = c.first_at_mut-pair.result.now in
    let read = c.first_at_mut-pair.ensures.value in
    let below : i < length (seconds_of ps) = omega (arith, c.requires, ap (λ m. length m.entries) c.self.view_is, length-map ps entry_of, length-map ps (λ p. p.1)) in
    let hash = slice_get-get_or (seconds_of ps) i 0 below ∙ ap (λ l. Some (get_or l i 0)) (sym c.seconds.ensures) ∙ ap (λ n. Some n) (sym c.new_unchecked-hash.ensures) in (
      (cc, λ w. ap (λ es. entry_list es c.self.inside.columns.capacity) (value_written ps i pair w read) ∙ ap (λ m. entry_list (set_value_at m.entries i w) m.capacity) c.self.view_is),
      record {
        writes_back = tt;
        value = rw (← c.self.view_is, c.new_unchecked.ensures) (entry_read ps i pair c.new_unchecked-hash.result.0 read hash);
      },
    )
