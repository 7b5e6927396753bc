use Rattle.starlark_hash.proofs.Common.{ap, is_some, map, option_map, subst, sym, ◌∙◌}
use Rattle.std.specs.Map.Calls.{CallableOnEachPair, CalledAtPair, TakesPair}
use Rattle.starlark_hash.specs.Entries.{entry_key, entry_value, pair_of}
use Rattle.starlark_hash.specs.Hasher.{own_hash}
use Rattle.starlark_dict.proofs.Inserted.{memory-kept, old-value}
use Rattle.starlark_dict.proofs.Kept.{at-pair, pairs-filtered, pairs-with_each_value, retains-pairs, same-key, takes-pairs}
use Rattle.starlark_dict.proofs.OwnPairs.{keys-pairs, length-pairs, unique-own}
use Rattle.starlark_dict.proofs.dict.Dict.retain.Goals as goal

pub retain-requires : goal.retain-requires
retain-requires g c = takes-pairs g.F.FnMut c.args.keep c.self.inside.map.entries (subst (λ d. CallableOnEachPair (CalledAtPair g.F.FnMut) (TakesPair g.F.FnMut) c.args.keep d.entries) (sym c.self.view_is) c.requires)

pub invariant_of-self : goal.invariant_of-self
invariant_of-self g c = c.retain.ensures.own g.K.Hash.hash_input c.self.invariant

pub returns : goal.returns
returns g c =
    let eq = g.K.PartialEq.eq in
    let feeds = g.K.Hash.hash_input in
    let alike = g.met.K.Hash.respects_eq in
    let call = g.F.FnMut in
    let keep = c.args.keep in
    let old = c.self.inside.map in
    let new = c.retain.new.self in
    let e = c.retain.ensures in
    let own = e.own feeds c.self.invariant in
    let was = λ (key : g.row.K.Denot). old-value eq feeds alike key old c.self.invariant in
    let is = λ (key : g.row.K.Denot). old-value eq feeds alike key new own in
    rw (← c.self.view_is)
    (record {
      retains = retains-pairs call keep old.entries new.entries e.entries;
      fewer = rw (length-pairs old.entries, length-pairs new.entries) e.fewer;
      no_new = λ key there. ap is_some (sym (was key)) ∙ e.no_new (own_hash feeds key) key (ap is_some (is key) ∙ there);
      filtered = λ test says. ap (map pair_of) (e.filtered (λ x. test (pair_of x)) (λ f x keeps d left called. let s = says f (entry_key x) (entry_value x) keeps (entry_value d) left (at-pair call f x keeps d left called) in (s.0, same-key call f x keeps d left called (entry_value x) s.1))) ∙ pairs-filtered test old.entries;
      tested = λ test says. ap (map pair_of) (e.tested (λ x. test (pair_of x)) (λ x keeps d left called. let s = says (entry_key x) (entry_value x) keeps (entry_value d) left (at-pair call keep x keeps d left called) in (s.0, same-key call keep x keeps d left called (entry_value x) s.1, s.2))) ∙ pairs-filtered test old.entries;
      unwritten = λ says key value at. sym (was key) ∙ e.unwritten (λ f x keeps d left called. same-key call f x keeps d left called (entry_value x) (says f (entry_key x) (entry_value x) keeps (entry_value d) left (at-pair call f x keeps d left called))) (own_hash feeds key) key value (is key ∙ at);
      keys = λ says. keys-pairs new.entries ∙ e.keys (λ f x keeps d left called. says f (entry_key x) (entry_value x) keeps (entry_value d) left (at-pair call f x keeps d left called)) ∙ sym (keys-pairs old.entries);
      there = λ says key. ap is_some (sym (is key)) ∙ e.there (λ f x keeps d left called. says f (entry_key x) (entry_value x) keeps (entry_value d) left (at-pair call f x keeps d left called)) (own_hash feeds key) key ∙ ap is_some (was key);
      written = λ written says. ap (map pair_of) (e.written (λ x. written (pair_of x)) (λ x keeps d left called. let s = says (entry_key x) (entry_value x) keeps (entry_value d) left (at-pair call keep x keeps d left called) in (s.0, same-key call keep x keeps d left called (written (pair_of x)) s.1, s.2))) ∙ pairs-with_each_value written old.entries;
      found = λ written says key. sym (is key) ∙ e.found written (λ x keeps d left called. let s = says (entry_key x) (entry_value x) keeps (entry_value d) left (at-pair call keep x keeps d left called) in (s.0, same-key call keep x keeps d left called (written (entry_value x)) s.1, s.2)) (own_hash feeds key) key ∙ ap (option_map written) (was key);
      memory = memory-kept old new e.kept;
      unique = unique-own eq feeds alike new.entries c.iter_hashed.ensures.single own;
    })
