use Rattle.starlark_hash.proofs.Common.{refl}
use Rattle.starlark_dict.proofs.EntryLemmas.{puts-appended, refuses-vacant}
use Rattle.starlark_dict.proofs.dict.entry.VacantEntry.insert.Goals as goal

pub returns : goal.returns
returns g c =
    let new = c.insert_new.follows in (
      (refl, λ w. (new.holds w, puts-appended c.args.self c.insert_new.result w (new.lender w) (new.holds w)), (new.holds-at-none, refuses-vacant c.args.self c.insert_new.result _ new.holds-at-none)),
      record { writes_back = tt; value = c.insert_new.ensures.value; full = c.insert_new.ensures.full; handed_back = c.insert_new.ensures.handed_back },
    )
