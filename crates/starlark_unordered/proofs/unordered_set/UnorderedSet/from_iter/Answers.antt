use Rattle.starlark_hash.proofs.Common.{◌≡◌, refl, sym, subst, ◌∙◌, keys_of, is_member, is_some, is_some-update_all, ap, None}
use Rattle.starlark_unordered.specs.Lookup.{contains}
use Rattle.starlark_unordered.specs.Pairs.{pairs_of}
use Rattle.starlark_unordered.proofs.LookupAgreement.{drains-beside}
use Rattle.starlark_unordered.proofs.Collection.{found-collected, run_of}
use Rattle.starlark_unordered.proofs.unordered_set.UnorderedSet.from_iter.Goals as goal

pub returns : goal.returns
returns g c =
    let eq = g.T.PartialEq.eq in
    let set = c.in_ok-from_iter.field-0 in
    let (it, first, xs, is, within, drains, put, room, most) = c.in_ok-from_iter.ensures.pairs in
    let goes = subst (g.I.IntoIterator.into_iter_gives c.args.iter) (sym (is ∙ c.new.ensures)) c.into_iter.ensures.into_iter_gives in
    let each = λ (element : g.row.T.Denot). ap is_some (found-collected eq g.met.T.Eq.laws xs (pairs_of set) put element) ∙ is_some-update_all g.met.T.Eq.laws element (λ _. None) xs in
    let alone = drains-beside g.I.IntoIter.Iterator.next_gives it xs drains in
    let found = run_of g.I.IntoIter.Iterator.next_gives it (keys_of xs) (λ items. (element : g.row.T.Denot) → contains eq set element ≡ is_member eq items element) alone each in
    record { found = (it, goes, found); pairs = (it, first, xs, goes, within, drains, put, room, most); none_for_none = λ none. refl }
