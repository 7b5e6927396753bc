use Rattle.starlark_hash.proofs.Common.{sym, ◌∙◌, ap, rules, of_calls}
use Rattle.starlark_hash.specs.HashValue.{key_of}
use Rattle.starlark_hash.specs.Entries.{position_of}
use Rattle.starlark_hash.proofs.SearchLemmas.{is_test, search-position_of}
use Rattle.starlark_small.proofs.index.Index.position_of.Goals as goal

pub returns-in-Some : goal.returns-in-Some
returns-in-Some g c =
    let es = c.args.entries.now.entries in
    let t = g.Q.Query.stands_for (key_of c.args.key) in
    search-position_of g.K.PartialEq.eq t (λ x y tx ty. sym (g.met.Q.Query.respects_eq (key_of c.args.key) x y tx) ∙ ty) c.hash-hash.result es c.requires.sound.single _ _
    (is_test _ t _ (λ x accepts next called. (search (rules, of_calls, called), search (rules, of_calls, called)))) c.find_in.result _ c.find_in.ensures.1
    ∙ ap (λ h. position_of h t es) c.hash-hash.ensures
