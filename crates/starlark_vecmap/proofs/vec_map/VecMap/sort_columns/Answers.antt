use Rattle.starlark_hash.proofs.Common.{◌≡◌, ℕ, map, sym, ap, ◌∙◌, rules, of_calls, is_lt, on_ok_weaker, ranks_by}
use Rattle.std.proofs.lemmas.List.Sorted.{answers_always}
use Rattle.starlark_hash.specs.Sort.{key_lt, sorted_by_key}
use Rattle.starlark_vecmap.specs.EntryList.{entry_list, entry_of}
use Rattle.starlark_vec2.proofs.MappedSort.{sorted_by-map}
use Rattle.starlark_vecmap.proofs.vec_map.VecMap.sort_columns.Goals as goal

pub returns-clause-sorted : goal.returns-clause-sorted
returns-clause-sorted g c =
    let ranks = ranks_by g.met.K.Ord.total (λ (p : (g.row.K.Denot × g.row.V.Denot) × ℕ). p.0.0) in
    on_ok_weaker c.sort_pairs_by.result
    (λ sorts. (λ j. entry_list (map entry_of (sorts _ ranks (answers_always _ _ _ (λ f a r f' k. let told : r ≡ g.K.Ord.cmp a.0.now.0.0 a.1.0.now.0.0 = search (rules, of_calls, k) in ap is_lt told)) j)) (c.sort_pairs_by.ensures.capacity j))
    ∙ ap (λ es. entry_list es c.self.inside.columns.capacity) (sym (sorted_by-map (key_lt g.K.Ord.cmp) entry_of c.self.inside.columns.pairs))
    ∙ ap (λ m. entry_list (sorted_by_key g.K.Ord.cmp m.entries) m.capacity) c.self.view_is)
    c.sort_pairs_by.ensures.sorted
