use Rattle.starlark_hash.proofs.Common.{◌≢◌, ◌++◌, ◌∷◌, [], ◌-◌, ◌∙◌, ap, arith, subst, sym, vec_capacity, All, false≢true}
use Rattle.starlark_small.specs.Hashes.{hash_under, noted}
use Rattle.starlark_small.specs.Slots.{hashes_in}
use Rattle.starlark_small.proofs.Kept.{Keeps, keeps-noted, seen}
use Rattle.starlark_small.proofs.Numbered.{none-under}
use Rattle.starlark_small.proofs.index.hash_table.HashTable.note_new.Goals as goal

kept : (c : goal.After-push_reserved) → Keeps (hashes_in c.self.inside.table.slots c.self.inside.cells.0.items ++ hash_under c.args.hash ∷ []) (c.self.inside.table.room - 1) c.insert_at.new.self c.push_reserved.new.self.items (vec_capacity c.push_reserved.new.self)
kept c =
    let put = c.insert_at in
    keeps-noted _ _ _ c.self.invariant put.new.self _ _ _ c.in-Some.slot _ c.push_reserved.ensures.items (omega (arith, c.push_reserved.ensures.capacity)) (omega (arith, c.len-index.ensures, c.self.inside.cells.0.ok.0))
    put.ensures.within put.ensures.slots put.ensures.added put.ensures.room (omega (arith, c.room.ensures, c.if-room-eq0.false))

pub invariant_of-self : goal.invariant_of-self
invariant_of-self c = (kept c).keeps

pub returns-clause-new : goal.returns-clause-new
returns-clause-new c = record {
  lacked = λ _. subst (λ h. All (λ x. x ≢ hash_under c.args.hash) h.list) c.self.view_is (none-under _ c.self.inside.table c.self.invariant.bag (hash_under c.args.hash) c.in-Some.ensures.none);
  room = λ _. omega (arith, c.room.ensures, c.if-room-eq0.false, ap (λ h. h.room) c.self.view_is);
  put = λ _. seen _ _ _ _ _ (kept c) ∙ ap (noted c.args.hash) c.self.view_is;
  unchanged = λ is. absurd (false≢true (sym is));
}
