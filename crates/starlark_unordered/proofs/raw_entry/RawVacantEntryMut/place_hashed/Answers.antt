use Rattle.starlark_hash.proofs.Common.{◌≡◌, ◌∙◌, refl, MutBor}
use Rattle.starlark_hash.specs.HashValue.{hashed}
use Rattle.starlark_table.specs.Table.{Table}
use Rattle.starlark_unordered.proofs.WrittenInsertion.{puts_pair}
use Rattle.starlark_unordered.proofs.raw_entry.RawVacantEntryMut.place_hashed.Goals as goal
use Rattle.starlark_unordered.proofs.raw_entry.RawVacantEntryMut.place_hashed.Goals.{in-Ok, in-Err}

pub returns : goal.returns
returns g c =
    let lent = c.args.self.map in
    let held : MutBor (Table (g.row.K.Denot × g.row.V.Denot)) = record lent { now = c.insert_new.new.self } in
    let key = c.into_key.result in
    let value = c.args.value in
    let puts = c.insert_new.ensures in
    let put = rw c.into_key.ensures at (puts_pair g.K.PartialEq.eq g.met.K.Eq.laws lent held key value (key, value) c.insert_new.result (rw c.into_key.ensures c.requires.lacking) refl puts.placed puts.adds puts.refused puts.handed_back puts.memory) in
    elim c.match-insert_new.branch [
      | in-Ok w ↦ rw w.placed-is (assumption (rw w.in-Ok.is at put))
      | in-Err w ↦
          let put = rw w.in-Err.is at put in
          let back = put.handed_back in
          -- hash and key form the hashed key again, and the value follows them
          let again : w.new_unchecked.result ≡ c.args.key = w.new_unchecked.ensures ∙ (λ i. hashed (c.hash-hash.ensures i) (back i).0) in
          rw w.placed-is (record { same_map = put.same_map; placed = tt; added = tt; written = tt; full = put.full; handed_back = λ i. (again i, (back i).1); unchanged = put.unchanged })
    ]
