use Rattle.starlark_hash.proofs.Common.{◌≡◌, rules, of_calls, deref, IsPermutation-map, ranks_by, Bor, is_lt}
use Rattle.std.proofs.lemmas.Fn.{answers_by}
use Rattle.starlark_unordered.proofs.IteratorRuns.{drained_shown}
use Rattle.starlark_unordered.proofs.unordered_set.UnorderedSet.entries_sorted.Goals as goal

pub returns : goal.returns
returns g c =
    let (items, shown, begins, runs, made) = c.in_ok-entries.ensures.ran in
    let same = drained_shown deref shown items ((runs.2 tt).0, (runs.0, runs.1, (runs.2 tt).1)) in
    let lt = λ (a b : Bor g.row.T.Denot). is_lt (g.T.Ord.cmp a.now b.now) in
    record {
      each = rw (made.0, same, begins, c.keys_unordered.ensures.keys, c.self.view_is) at (IsPermutation-map deref _ _ c.sort_by.ensures.permutation);
      ascends = c.in_ok-sort_by.ensures.sorted lt (ranks_by g.met.T.Ord.total (λ a. a.now))
          (answers_by _ (λ a r. is_lt r ≡ lt a.0.now a.1.0.now) (λ _. Unit {0}) (λ f a r f' called _. (search (rules, of_calls, called), tt)) _ tt);
    }
