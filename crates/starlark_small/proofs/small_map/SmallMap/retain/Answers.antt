use Rattle.starlark_small.proofs.Retained.{IsSingle-retained, length-retained, filtered, tested}
use Rattle.starlark_small.proofs.FoundRetained.{each-became, each-written, found-became, found-unwritten, keys-became}
use Rattle.starlark_hash.proofs.Common.{ap, is_some, refl, rules, subst, ◌≡◌, Some}
use Rattle.std.specs.Option.{option_map}
use Rattle.starlark_hash.specs.Retain.{CalledAtEntry}
use Rattle.starlark_small.proofs.CallerOwn.{own-retained}
use Rattle.starlark_small.proofs.CallerRemove.{found-retained}
use Rattle.starlark_small.proofs.Indexed.{cleared-room, follows-refilled}
use Rattle.starlark_small.proofs.Rooms.{KeepsMemory-fewer}
use Rattle.starlark_small.proofs.small_map.SmallMap.retain.Goals as goal

pub invariant_of-self : goal.invariant_of-self
invariant_of-self g c =
    let fewer = length-retained g.F.FnMut c.args.keep c.self.inside.entries.entries c.retain.new.self.entries c.retain.ensures.entries in
    assumption (
      IsSingle-retained g.F.FnMut g.K.PartialEq.eq c.args.keep c.self.inside.entries.entries c.retain.new.self.entries c.retain.ensures.entries c.self.invariant.single,
      follows-refilled c.self.inside.entries c.retain.new.self c.self.inside.index c.clear.new.self c.note_all.new.self fewer c.self.invariant.indexed c.clear.ensures c.note_all.ensures,
    )

pub note_all-requires : goal.note_all-requires
note_all-requires g c =
    cleared-room c.self.inside.entries.entries _ c.self.inside.index c.clear.new.self (length-retained g.F.FnMut c.args.keep c.self.inside.entries.entries c.retain.new.self.entries c.retain.ensures.entries) c.self.invariant.indexed c.clear.ensures

pub returns : goal.returns
returns g c =
    let fewer = length-retained g.F.FnMut c.args.keep c.self.inside.entries.entries c.retain.new.self.entries c.retain.ensures.entries in
    let now = follows-refilled c.self.inside.entries c.retain.new.self c.self.inside.index c.clear.new.self c.note_all.new.self fewer c.self.invariant.indexed c.clear.ensures c.note_all.ensures in
    let calls = CalledAtEntry g.F.FnMut in
    let es = c.self.inside.entries.entries in
    let kept = c.retain.new.self.entries in
    rw (← c.self.view_is)
    (record {
      entries = c.retain.ensures.entries;
      fewer = fewer;
      no_new = λ under key. found-retained g.F.FnMut (g.K.PartialEq.eq key) under c.args.keep es kept c.retain.ensures.entries;
      own = λ feeds. own-retained feeds g.F.FnMut c.args.keep es kept c.retain.ensures.entries;
      filtered = λ test says. filtered g.F.FnMut test says c.args.keep es kept c.retain.ensures.entries;
      tested = λ test says. tested g.F.FnMut test c.args.keep says c.args.keep refl es kept c.retain.ensures.entries;
      unwritten = λ says under key. found-unwritten calls says g.K.PartialEq.eq g.met.K.Eq.laws key under c.args.keep es kept c.retain.ensures.entries c.self.invariant.single;
      written = λ value says. each-written calls value c.args.keep says c.args.keep refl es kept c.retain.ensures.entries;
      found = λ value says under key. found-became (g.K.PartialEq.eq key) under (λ e d. d.1 ≡ value e.1) (λ v w. w ≡ option_map value v) refl (λ e d r. ap Some r) es kept
          (each-became calls (λ e d. d.1 ≡ value e.1) (λ f. f ≡ c.args.keep) (λ f e keeps d left same called. let s = says e keeps d left (subst (λ h. calls h e keeps d left) same called) in (s.0, ap (λ x. x.0) s.1, ap (λ x. x.1) s.1, s.2))
          c.args.keep refl es kept c.retain.ensures.entries);
      there = λ says under key. found-became (g.K.PartialEq.eq key) under (λ e d. Unit) (λ v w. is_some w ≡ is_some v) refl (λ e d r. refl) es kept
          (each-became calls (λ e d. Unit) (λ f. Unit) (λ f e keeps d left good called. (says f e keeps d left called, ap (λ x. x.0) called.leaves, tt, tt)) c.args.keep tt es kept c.retain.ensures.entries);
      keys = λ says. keys-became (λ e d. Unit) es kept
          (each-became calls (λ e d. Unit) (λ f. Unit) (λ f e keeps d left good called. (says f e keeps d left called, ap (λ x. x.0) called.leaves, tt, tt)) c.args.keep tt es kept c.retain.ensures.entries);
      kept = KeepsMemory-fewer c.self.inside.entries c.retain.new.self c.self.inside.index c.note_all.new.self fewer (search rules) (search rules) now.1 now.2;
    })
