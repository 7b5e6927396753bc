-- The memory of a map during a run, computed from the run's commands and replies.
use Rattle.std.specs.Prelude.{◌≡◌, ◌+◌, ◌*◌, ◌<◌, ◌≤◌, ◌||◌, ℕ, Bool, false, List, [], ◌∷◌, length, max, min, nat_le, nat_lt, is_none, if◌then◌else◌, ⊤}
use Rattle.std.specs.declared.cmp.Ordering.{Ordering}
use Rattle.starlark_hash.specs.Entries.{Entry, match_of}
use Rattle.starlark_hash.specs.Insert.{insert_entry}
use Rattle.starlark_small.specs.Index.{unindexed}
use Rattle.starlark_small.specs.Map.{Map}
use Rattle.starlark_runs.specs.Run.{Step}
use Rattle.starlark_runs.specs.declared.command.Command.{Command}
use Rattle.starlark_runs.specs.declared.command.Command.TheVariants.{DropIndex, Insert, Reserve}
use Rattle.starlark_runs.specs.declared.command.Reply.{Reply}
use Rattle.starlark_runs.specs.declared.command.Reply.TheVariants.{Done, NoMemory, Old, Refused}

-- the ceiling, which is a length up to which a new entry certainly needs no memory; the greatest length that was asked
-- for; and whether there is a hash index
pub record Memory : Type 0 where
  pub ceiling : ℕ
  pub asked : ℕ
  pub indexed : Bool

-- the memory that a run begins with: the ceiling is length plus room, nothing was asked for, and there is a hash index if
-- the map has one
abbrev pub memory_of : {K V : Type 0} → Map K V → Memory
memory_of m = record { ceiling = length m.entries + m.room; asked = 0; indexed = m.indexed }

-- the length that an insertion of a new entry or a reservation asks for; 0 for any other command
abbrev pub length_asked : {K V : Type 0} → (K → K → Bool) → List (Entry K V) → Command K V → ℕ
length_asked eq old (Insert key value) = if is_none (match_of eq old key) then length old + 1 else 0
length_asked eq old (Reserve n) = length old + n
length_asked eq old command = 0

module _ {K V R : Type 0} (eq : K → K → Bool) where
  -- the ceiling after a command with this reply. An accepted insertion of a new entry and an accepted reservation raise it
  -- to the length that they ask for; `DropIndex` at a length up to the threshold lowers it to at most the threshold; every
  -- other command leaves it
  abbrev pub ceiling_after : ℕ → List (Entry K V) → Command K V → Reply K V R → ℕ
  ceiling_after ceiling old (Insert key value) (Old before) = if is_none (match_of eq old key) then max ceiling (length old + 1) else ceiling
  ceiling_after ceiling old (Reserve n) Done = max ceiling (length old + n)
  ceiling_after ceiling old DropIndex Done = if nat_le (length old) unindexed then min ceiling unindexed else ceiling
  ceiling_after ceiling old command reply = ceiling

  -- whether there is a hash index after a command with this reply
  abbrev pub indexed_after : Bool → List (Entry K V) → Command K V → Reply K V R → Bool
  indexed_after indexed old (Insert key value) (Old before) = indexed || nat_lt unindexed (length (insert_entry eq old key value))
  indexed_after indexed old (Reserve n) Done = indexed || nat_lt unindexed (length old + n)
  indexed_after indexed old DropIndex Done = if nat_le (length old) unindexed then false else indexed
  indexed_after indexed old command reply = indexed

  -- the memory after a command with this reply
  abbrev pub memory_after : Memory → List (Entry K V) → Command K V → Reply K V R → Memory
  memory_after memory old command reply = record {
    ceiling = ceiling_after memory.ceiling old command reply;
    asked = max memory.asked (length_asked eq old command);
    indexed = indexed_after memory.indexed old command reply;
  }

-- if the reply refuses an insertion or a reservation, the ceiling is too low for it: no insertion is refused below the
-- ceiling, and no reservation up to it
abbrev pub IsPastCeiling : {K V R : Type 0} → ℕ → List (Entry K V) → Command K V → Reply K V R → Type 0
IsPastCeiling ceiling old (Insert key value) (Refused k v) = ceiling ≤ length old
IsPastCeiling ceiling old (Reserve n) NoMemory = ceiling < length old + n
IsPastCeiling ceiling old command reply = ⊤

module _ {K V R : Type 0} (eq : K → K → Bool) (cmp : K → K → Ordering) (shows : Entry K V → R → Type 0) where
  -- a run in which room is refused only past the ceiling, and during which the memory changes from `first` to `last`
  abbrev pub MemoryRun : Memory → List (Entry K V) → List (Command K V) → List (Reply K V R) → List (Entry K V) → Memory → Type 0
  MemoryRun first old [] [] new last = (new ≡ old) × (last ≡ first)
  MemoryRun first old (command ∷ commands) (reply ∷ replies) new last =
      (next : List (Entry K V)) × Step eq cmp shows old command reply next
      × IsPastCeiling first.ceiling old command reply × MemoryRun (memory_after eq first old command reply) next commands replies new last
  MemoryRun first old commands replies new last = ⊥

  -- there is a `MemoryRun` that begins with the map and its memory, so that the run refuses room only past the ceiling
  abbrev pub RefusesPastCeiling : Map K V → List (Command K V) → List (Reply K V R) → List (Entry K V) → Type 0
  RefusesPastCeiling start commands replies new = (last : Memory) × MemoryRun (memory_of start) start.entries commands replies new last

  -- the memory that the run ends with satisfies this
  abbrev pub EndsWith : Map K V → List (Command K V) → List (Reply K V R) → List (Entry K V) → (Memory → Type 0) → Type 0
  EndsWith start commands replies new so = (last : Memory) → MemoryRun (memory_of start) start.entries commands replies new last → so last

-- the map has this memory after a run that began at `start`: length plus room is at least the ceiling; the capacity is at
-- most the largest of that of `start`, 4 and twice the length that was asked for; and there is a hash index if the memory
-- says so
pub record HasMemory {K V : Type 0} (start : Map K V) (memory : Memory) (now : Map K V) : Type 0 where
  pub room : memory.ceiling ≤ length now.entries + now.room
  pub capacity : now.capacity ≤ max start.capacity (max 4 (2 * memory.asked))
  pub indexed : now.indexed ≡ memory.indexed
