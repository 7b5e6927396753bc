use Rattle.starlark_hash.proofs.Common.{IfOk-weaker, ◌∙◌, on_ok_weaker, sym}
use Rattle.std.proofs.lemmas.Result.{on_err_weaker}
use Rattle.starlark_dict.proofs.OwnPairs.{unique-own}
use Rattle.starlark_dict.proofs.Inserted.{count-inserted, done, full-room, leaves-memory, old-value, room-kept, stays}
use Rattle.starlark_dict.proofs.dict.Dict.insert.Goals as goal

pub returns : goal.returns
returns g c =
    let eq = g.K.PartialEq.eq in
    let feeds = g.K.Hash.hash_input in
    let alike = g.met.K.Hash.respects_eq in
    let laws = g.met.K.Eq.laws in
    let key = c.args.key in
    let old = c.self.inside.map in
    let new = c.insert-old.new.self in
    let r = c.insert-old.result in
    let e = c.insert-old.ensures in
    let own = c.self.invariant in
    rw (← c.self.view_is)
    (record {
      old = IfOk-weaker r _ _ (λ was is. is ∙ old-value eq feeds alike key old own) e.old;
      updates = on_ok_weaker r (λ put. (done eq feeds alike key c.args.value laws old new own put.entries).1) e.inserts;
      entries = on_ok_weaker r (λ put. (done eq feeds alike key c.args.value laws old new own put.entries).0) e.inserts;
      len = count-inserted eq feeds alike key c.args.value laws old new own r e.old e.inserts;
      handed_back = e.handed_back;
      err = on_err_weaker r (λ refused. stays old new refused.entries) e.refused;
      absent = on_err_weaker r (λ refused. sym (old-value eq feeds alike key old own) ∙ refused.lacking) e.refused;
      succeeds = full-room eq feeds old new key r e.refused;
      room = room-kept old new e.memory.room;
      memory = leaves-memory eq old new _ e.memory;
      unique = unique-own eq feeds alike new.entries c.iter_hashed.ensures.single (e.own own);
    })
