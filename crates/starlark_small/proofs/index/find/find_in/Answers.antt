use Rattle.starlark_hash.proofs.Common.{◌≡◌, ◌<◌, ◌^◌, ◌∙◌, ap, refl, subst, map}
use Rattle.starlark_hash.specs.Entries.{pair_of}
use Rattle.starlark_small.proofs.KeySearch.{can_in, found_in, pair_there, taken}
use Rattle.starlark_small.proofs.index.find.find_in.Goals as goal

pub find-requires : goal.find-requires
find-requires g c =
    let es = c.args.entries.now.entries in
    can_in g.F.FnMut _ (λ s. s.0.now) (λ s. s.1.now ≡ map pair_of es) es c.args.table.now.list c.requires.index.list c.args.hash c.requires.index.fits (subst (λ n. n < 2 ^ 32) c.get-number.ensures.number c.get-number.ensures.fits)
    (λ s i b t sees called. let m = called.called.met in (ap (λ r. r.now) m.0.1 ∙ sees, λ e is. m.1 (pair_of e) (pair_there es s.1.now i called.shown.now e sees called.shows is)))
    _ c.pairs-pairs.ensures es refl (λ s i sees e at takes shown shows. taken g.F.FnMut es s.1.now i shown.now s.0.now sees shows e at takes) c.requires.callable

pub returns : goal.returns
returns g c =
    let es = c.args.entries.now.entries in
    let found = c.find.ensures in (
      found.0.0.now,
      found_in g.F.FnMut _ (λ s. s.0.now) (λ s. s.1.now ≡ map pair_of es) es c.args.table.now.list c.requires.index.list c.args.hash c.requires.index.fits (subst (λ n. n < 2 ^ 32) c.get-number.ensures.number c.get-number.ensures.fits)
          (λ s i b t sees called. let m = called.called.met in (ap (λ r. r.now) m.0.1 ∙ sees, λ e is. m.1 (pair_of e) (pair_there es s.1.now i called.shown.now e sees called.shows is)))
          _ c.pairs-pairs.ensures es refl found.0 c.find.result found.1,
    )
