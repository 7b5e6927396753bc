-- An empty slot in the group at a hash's home. If no tag of the group is that of the hash, no member has the hash, and a
-- new one may be stored there.
use Rattle.starlark_hash.proofs.Common.{◌≡◌, ◌≢◌, ℕ, ◌+◌, ◌<◌, List, [], length, Option, arith, count_trailing_zeros}
use Rattle.starlark_table.specs.Table.{holders_in}
use Rattle.starlark_table.specs.Layout.{home, tag, tag_bits, empty_tag, InPlace, IsMask, IsTagged, IsVacancy}
use Rattle.starlark_table.proofs.Circle.{home-below, distance-self}
use Rattle.starlark_table.proofs.BackwardShift.{full_in_range}
use Rattle.starlark_table.proofs.Holders.{holders-none}
use Rattle.starlark_table.proofs.ProbeSequence.{at_home, first_empty, window_begins, window_ends}

module _ {T : Type 0} (hash : ℕ) (tags : List ℕ) (slots : List (Option (ℕ × T))) (tagged : IsTagged tags slots) where
  pub vacant_at_home : (mask start number : ℕ) → 0 < length slots → IsMask mask slots → start ≡ home (mask + 1) number → number ≡ hash
      → InPlace (length slots) slots → (sought same empty : ℕ) → sought ≡ tag number → same ≡ tag_bits sought tags start 16 → same ≡ 0
      → empty ≡ tag_bits empty_tag tags start 16 → empty ≢ 0 → (holders_in hash slots ≡ []) × IsVacancy hash slots (start + count_trailing_zeros 64 empty)
  vacant_at_home mask start number some masked is hashes in_place sought same empty seeks its_same none its_empty free =
      let a = home (length slots) hash in
      let here = at_home tags slots tagged hash mask start number some masked is hashes in
      let first = first_empty tags slots tagged a empty (home-below (length slots) hash here.0) (rw here.1 at its_empty) free in
      let begins = window_begins hash tags slots tagged here.0 same (rw (seeks, hashes, here.1) at its_same) in
      rw here.1 (
        holders-none hash 0 slots (λ q x there. window_ends hash tags slots tagged here.0 a a same begins none _ first in_place q x
            (grind (arith, distance-self (length slots) a, full_in_range slots q (hash, x) there)) there),
        grind (arith, first),
      )
