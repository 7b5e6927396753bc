use Rattle.starlark_hash.proofs.Common.{IsPermutation-trans, IsPermutation-cons}
use Rattle.starlark_table.proofs.TableLemmas.{grows-by_one}
use Rattle.starlark_table.proofs.ready_table.ReadyTable.insert_unique.Goals as goal

pub returns-clause-added : goal.returns-clause-added
returns-clause-added g c = IsPermutation-trans _ _ _ (IsPermutation-cons _ _ _ c.reserve.ensures.bag) c.insert_reserved.ensures.added

pub returns-clause-room : goal.returns-clause-room
returns-clause-room g c =
    let put = c.insert_reserved.ensures in
    let made = c.in_default.ensures {u = tt} in
    grows-by_one _ _ _ _ made.bag made.ok made.enough made.most put.added put.room
