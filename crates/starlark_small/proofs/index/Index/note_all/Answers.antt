use Rattle.starlark_hash.proofs.Common.{◌++◌, ◌∷◌, [], ◌<◌, ◌^◌, ◌-◌, ◌≡◌, length, ◌∙◌, ap, arith, subst, sym, take, Some, All, take_all, All-push}
use mathlib.Core.Path.{subst⁻¹}
use Rattle.std.proofs.lemmas.List.Elements.{All-nil}
use Rattle.std.specs.Option.{option_copied_mut}
use Rattle.starlark_vecmap.specs.EntryList.{deref_entry}
use Rattle.starlark_small.specs.Hashes.{hash_under}
use Rattle.starlark_small.specs.Index.{hashes_of}
use Rattle.starlark_small.specs.IndexCalls.{IsFilled}
use Rattle.starlark_small.proofs.Indexed.{hashes-push}
use Rattle.starlark_small.proofs.Numbered.{take-more}
use Rattle.starlark_small.proofs.index.Index.note_all.Goals as goal

pub loop-i-init : goal.loop-i-init
loop-i-init g c =
    let req = rw (← c.self.view_is, ← c.get_mut.ensures.value, c.in-Some.is) at c.requires in
    record { list = req.0; room = omega arith; enough = req.1; fits = All-nil (λ e. e.0.hash.0 < 2 ^ 32) }

pub loop-i-preserved : goal.loop-i-preserved
loop-i-preserved g c =
    let es = c.args.entries.now.entries in
    let e = deref_entry c.get_unchecked.result in
    let k = c.loop-i.invariant in
    let more = take-more c.loop-i.i es e c.get_unchecked.ensures in
    record {
      list = ap (λ h. h.list) c.note.ensures.noted ∙ (λ j. k.list j ++ hash_under (c.hash-hash.ensures j) ∷ []) ∙ sym (hashes-push (take c.loop-i.i es) e) ∙ sym (ap hashes_of more);
      room = omega (arith, ap (λ h. h.room) c.note.ensures.noted, k.room, k.enough, c.loop-i-test.true, c.len-i-end.ensures.len);
      enough = k.enough;
      fits = subst (λ l. All (λ e. e.0.hash.0 < 2 ^ 32) l) (sym more) (All-push (λ e. e.0.hash.0 < 2 ^ 32) (take c.loop-i.i es) e k.fits (subst (λ h. h.0 < 2 ^ 32) c.hash-hash.ensures c.note.ensures.fits));
    }

pub returns : goal.returns
returns g c =
    let was = sym c.self.view_is ∙ sym c.get_mut.ensures.value ∙ ap option_copied_mut c.in-Some.is in
    let es = c.args.entries.now.entries in
    let k = c.loop-i.invariant in
    let whole = take_all c.loop-i.i es (omega (arith, c.loop-i-test.false, c.len-i-end.ensures.len)) in
    let room : c.loop-i.table.room ≡ c.in-Some.table.now.room - length es = omega (arith, k.room, c.loop-i-test.false, c.loop-i.auto.i-end, c.len-i-end.ensures.len) in
    subst⁻¹ (λ o. IsFilled es o (Some c.loop-i.table)) was (record {
      hashes = λ j. Some (record { list = (k.list ∙ ap hashes_of whole) j; room = room j });
      fits = subst (λ l. All (λ e. e.0.hash.0 < 2 ^ 32) l) whole k.fits;
    })
