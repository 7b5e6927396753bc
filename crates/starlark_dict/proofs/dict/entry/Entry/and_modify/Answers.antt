use Rattle.starlark_hash.proofs.Common.{Some, ap, refl, rules, subst, sym, ◌∙◌, ◌≡◌}
use Rattle.starlark_dict.specs.Entry.{Puts, entry_value_of, with_entry_value}
use Rattle.starlark_dict.proofs.EntryLemmas.{puts-with_entry_value, refuses-occupied, value-with_entry_value}
use Rattle.starlark_dict.proofs.dict.entry.Entry.and_modify.Goals as goal

pub returns-in-Occupied : goal.returns-in-Occupied
returns-in-Occupied g c =
    let o = c.in-Occupied.entry in
    let was : entry_value_of c.args.self ≡ Some c.get_mut.result.now = ap entry_value_of c.in-Occupied.is ∙ c.get_mut.ensures.value in
    let now = value-with_entry_value o c.f.new.arg2 in
    record {
      same_dict = search rules;
      modified = rw c.in-Occupied.is (record {
        old = c.get_mut.result.now;
        new = c.f.new.arg2;
        there = c.get_mut.ensures.value;
        called = record { shown = c.get_mut.result; shows = refl; left = _; met = c.f.ensures; leaves = refl };
        entry = refl;
      });
      changed = rw (was, now) (record { lent = c.get_mut.result; result = c.f.result; left = _; before = refl; met = c.f.ensures; after = refl });
      puts = λ value new put. subst (λ e. Puts e value new) (sym c.in-Occupied.is) (puts-with_entry_value o c.f.new.arg2 value new put);
      refused = λ new refused. refuses-occupied (with_entry_value o c.f.new.arg2) c.args.self new refused;
    }
