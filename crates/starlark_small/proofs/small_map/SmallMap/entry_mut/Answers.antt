use Rattle.starlark_hash.proofs.Common.{slice_get, Some, refl, sym, ap, ◌∙◌, option_map}
use Rattle.starlark_hash.specs.Entries.{pair_of}
use Rattle.starlark_small.specs.Map.{Map}
use Rattle.starlark_small.proofs.Inserted.{with_value_at}
use Rattle.starlark_small.proofs.Rooms.{IsSound-set_value_at, map_of-set_value_at}
use Rattle.starlark_small.proofs.small_map.SmallMap.entry_mut.Goals as goal

pub invariant_of-self-lent : goal.invariant_of-self-lent
invariant_of-self-lent g c w = IsSound-set_value_at g.K.PartialEq.eq c.self.inside.entries.entries c.args.index w c.self.inside.index c.self.invariant

pub returns : goal.returns
returns g c =
    let list = c.self.inside.entries in
    let i = c.args.index in (
      (
        refl {a = c.get_unchecked_mut-value.result.1.ghost_name},
        λ w. map_of-set_value_at list i w c.self.inside.index ∙ ap (λ (m : Map g.row.K.Denot g.row.V.Denot). with_value_at m i w) c.self.view_is,
      ),
      record {
        writes_back = tt;
        value = ap (λ m. option_map pair_of (slice_get m.entries i)) (sym c.self.view_is) ∙ ap (option_map pair_of) {x = slice_get list.entries i} c.get_unchecked_mut-value.ensures.value
            ∙ ap (λ k. Some (k.now, c.get_unchecked_mut-value.result.1.now)) (sym c.into_key.ensures);
      },
    )
