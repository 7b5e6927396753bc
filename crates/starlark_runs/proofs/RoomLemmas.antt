-- What a run accepts without a refusal, computed from the ceiling beside it.
use Rattle.starlark_hash.proofs.Common.{◌≡◌, ◌+◌, ◌<◌, ◌≤◌, ℕ, suc, Bool, true, false, List, [], ◌∷◌, ◌++◌, length, Option, refl, arith, remove, Ordering, nat_tests, common_steps, length-reverse}
use Rattle.starlark_hash.proofs.SortingLemmas.{length-sorted_by}
use Rattle.starlark_hash.specs.Entries.{Entry, without}
use Rattle.starlark_small.specs.Map.{Map}
use Rattle.starlark_runs.proofs.MemoryLemmas.{Step-entries, length-inserted, length-with_value}
use Rattle.starlark_runs.specs.Memory.{IsPastCeiling, Memory, MemoryRun, RefusesPastCeiling, ceiling_after, memory_after, memory_of}
use Rattle.starlark_runs.specs.Room.{AcceptsNext, AcceptsReserved, AcceptsUpTo, AcceptsWhatItHeld, AcceptsWhatItReserved, IsAccepted}
use Rattle.starlark_runs.specs.Run.{Run, Step}
use Rattle.starlark_runs.specs.declared.command.Command.{Command}
use Rattle.starlark_runs.specs.declared.command.Command.TheVariants.{Len, Insert, Reserve, DropIndex}
use Rattle.starlark_runs.specs.declared.command.Reply.{Reply}
use Rattle.starlark_runs.specs.declared.command.Reply.TheVariants.{Refused, Done}

length-remove_at_most : {X : Type 0} (xs : List X) (i : ℕ) → length (remove xs i) ≤ length xs
length-remove_at_most xs i = grind (arith, common_steps)

-- by how much a command may lengthen the list
abbrev growth : {K V : Type 0} → Command K V → ℕ
growth (Insert key value) = 1
growth command = 0

abbrev drops : {K V : Type 0} → Command K V → Bool
drops DropIndex = true
drops command = false

length-without : {K V : Type 0} (es : List (Entry K V)) (index : Option ℕ) → length (without es index) ≤ length es
length-without es index = grind (arith, common_steps, length-remove_at_most)

module _ {K V R : Type 0} (eq : K → K → Bool) where
  -- a command that does not drop an index keeps the ceiling
  ceiling-kept : (c : ℕ) (old : List (Entry K V)) (command : Command K V) (reply : Reply K V R) → drops command ≡ false → c ≤ ceiling_after eq c old command reply
  ceiling-kept c old Len Done keeps = omega arith
  ceiling-kept c old command Done keeps = grind (arith, nat_tests)
  ceiling-kept c old command reply keeps = grind (arith, nat_tests)

module _ {K V R : Type 0} (eq : K → K → Bool) (cmp : K → K → Ordering) (shows : Entry K V → R → Type 0) where
  -- an insertion lengthens the list by at most one entry, and no other command does; the ceiling is never below the length
  length-after : (old : List (Entry K V)) (command : Command K V) (reply : Reply K V R) (next : List (Entry K V)) → Step eq cmp shows old command reply next
      → (length next ≤ length old + growth command) × ((c : ℕ) → length old ≤ c → length next ≤ ceiling_after eq c old command reply)
  length-after old Len Done next p = absurd p
  length-after old command Done next p = (grind (arith, length-reverse, length-sorted_by), λ c low. grind (arith, nat_tests, length-reverse, length-sorted_by))
  length-after old command reply next p = (
    grind (arith, nat_tests, length-remove_at_most, length-without, length-inserted, length-with_value),
    λ c low. grind (arith, nat_tests, length-remove_at_most, length-without, length-inserted, length-with_value),
  )

  -- below the ceiling no insertion is refused
  accepted : (n c : ℕ) (old : List (Entry K V)) (command : Command K V) (reply : Reply K V R) (next : List (Entry K V)) → Step eq cmp shows old command reply next
      → IsPastCeiling c old command reply → n ≤ c → length old < n → IsAccepted reply
  accepted n c old (Insert key value) (Refused k v) next p past low few = omega arith
  accepted n c old command (Refused k v) next p past low few = p
  accepted n c old command reply next p past low few = tt

  pub AcceptsUpTo-ceiling : (n : ℕ) (memory : Memory) (old : List (Entry K V)) (commands : List (Command K V)) (replies : List (Reply K V R)) (new : List (Entry K V)) (last : Memory)
      → MemoryRun eq cmp shows memory old commands replies new last → n ≤ memory.ceiling → AcceptsUpTo eq cmp shows n old commands replies
  AcceptsUpTo-ceiling n memory old (DropIndex ∷ commands) replies new last run low = tt
  AcceptsUpTo-ceiling n memory old (command ∷ commands) (reply ∷ replies) new last run low = (
    run.0,
    run.1,
    accepted n memory.ceiling old command reply run.0 run.1 run.2 low,
    AcceptsUpTo-ceiling n (memory_after eq memory old command reply) run.0 commands replies new last run.3 (omega (arith, ceiling-kept eq memory.ceiling old command reply refl)),
  )
  AcceptsUpTo-ceiling n memory old commands replies new last run low = tt

  AcceptsNext-ceiling : (n : ℕ) (memory : Memory) (old : List (Entry K V)) (commands : List (Command K V)) (replies : List (Reply K V R)) (new : List (Entry K V)) (last : Memory)
      → MemoryRun eq cmp shows memory old commands replies new last → length old + n ≤ memory.ceiling → AcceptsNext n commands replies
  AcceptsNext-ceiling (suc n) memory old (DropIndex ∷ commands) replies new last run low = tt
  AcceptsNext-ceiling (suc n) memory old (Insert key value ∷ commands) (reply ∷ replies) new last run low =
      let kept = ceiling-kept eq memory.ceiling old (Insert key value) reply refl in
      let more = (length-after old (Insert key value) reply run.0 run.1).0 in (
        accepted (length old + suc n) memory.ceiling old (Insert key value) reply run.0 run.1 run.2 low (omega arith),
        AcceptsNext-ceiling n (memory_after eq memory old (Insert key value) reply) run.0 commands replies new last run.3 (omega arith),
      )
  AcceptsNext-ceiling (suc n) memory old (command ∷ commands) (reply ∷ replies) new last run low =
      let kept = ceiling-kept eq memory.ceiling old command reply refl in
      let more = (length-after old command reply run.0 run.1).0 in
      AcceptsNext-ceiling (suc n) (memory_after eq memory old command reply) run.0 commands replies new last run.3 (omega arith)
  AcceptsNext-ceiling n memory old commands replies new last run low = tt

  -- the rest of a run is a run, from a memory whose ceiling is not below the length
  MemoryRun-rest : (first : Memory) (old : List (Entry K V)) (before after : List (Command K V)) (rs ss : List (Reply K V R)) (new : List (Entry K V)) (last : Memory) (now : List (Entry K V))
      → MemoryRun eq cmp shows first old (before ++ after) (rs ++ ss) new last → Run eq cmp shows old before rs now → length old ≤ first.ceiling
      → (memory : Memory) × (length now ≤ memory.ceiling) × MemoryRun eq cmp shows memory now after ss new last
  MemoryRun-rest first old [] after [] ss new last now run here low = rw here (first, low, run)
  MemoryRun-rest first old (command ∷ before) after (r ∷ rs) ss new last now run here low =
      let one = Step-entries eq cmp shows old command r run.0 here.0 run.1 here.1 in
      MemoryRun-rest (memory_after eq first old command r) here.0 before after rs ss new last now (rw one at run.3) here.2
      ((length-after old command r here.0 here.1).1 first.ceiling low)
  MemoryRun-rest first old before after rs ss new last now run here low = absurd here

  module _ (start : Map K V) (commands : List (Command K V)) (replies : List (Reply K V R)) (new : List (Entry K V)) (refuses : RefusesPastCeiling eq cmp shows start commands replies new) where
    pub AcceptsUpTo-start : AcceptsUpTo eq cmp shows (length start.entries + start.room) start.entries commands replies
    AcceptsUpTo-start = AcceptsUpTo-ceiling (length start.entries + start.room) (memory_of start) start.entries commands replies new refuses.0 refuses.1 (omega arith)

    rest : (before after : List (Command K V)) (first later : List (Reply K V R)) (now : List (Entry K V)) → commands ≡ before ++ after → replies ≡ first ++ later
        → Run eq cmp shows start.entries before first now → (memory : Memory) × (length now ≤ memory.ceiling) × MemoryRun eq cmp shows memory now after later new refuses.0
    rest before after first later now cut cut_replies here =
        MemoryRun-rest (memory_of start) start.entries before after first later new refuses.0 now (rw (← cut, ← cut_replies) refuses.1) here (omega arith)

    pub AcceptsWhatItHeld-of_ceiling : AcceptsWhatItHeld eq cmp shows start.entries commands replies
    AcceptsWhatItHeld-of_ceiling before after first later now cut cut_replies here =
        let left = rest before after first later now cut cut_replies here in
        AcceptsUpTo-ceiling (length now) left.0 now after later new refuses.0 left.2 left.1

    -- after a reservation of n the ceiling leaves room for n
    reserved : (n : ℕ) (before after : List (Command K V)) (first later : List (Reply K V R)) (now : List (Entry K V)) → commands ≡ before ++ Reserve n ∷ after → replies ≡ first ++ Done ∷ later
        → Run eq cmp shows start.entries before first now → (memory : Memory) × (length now + n ≤ memory.ceiling) × MemoryRun eq cmp shows memory now after later new refuses.0
    reserved n before after first later now cut cut_replies here =
        let left = rest before (Reserve n ∷ after) first (Done ∷ later) now cut cut_replies here in
        (memory_after {R = R} eq left.0 now (Reserve n) Done, omega arith, rw left.2.1 at left.2.3)

    pub AcceptsWhatItReserved-of_ceiling : AcceptsWhatItReserved eq cmp shows start.entries commands replies
    AcceptsWhatItReserved-of_ceiling n before after first later now cut cut_replies here =
        let left = reserved n before after first later now cut cut_replies here in
        AcceptsUpTo-ceiling (length now + n) left.0 now after later new refuses.0 left.2 left.1

    pub AcceptsReserved-of_ceiling : AcceptsReserved eq cmp shows start.entries commands replies
    AcceptsReserved-of_ceiling n before after first later now cut cut_replies here =
        let left = reserved n before after first later now cut cut_replies here in
        AcceptsNext-ceiling n left.0 now after later new refuses.0 left.2 left.1
