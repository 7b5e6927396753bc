-- Relations between the definitions on a run's memory.
use Rattle.starlark_hash.proofs.Common.{◌≡◌, ◌+◌, ◌*◌, ◌≤◌, ℕ, Bool, List, [], ◌∷◌, length, max, Option, cond, refl, sym, subst, ◌∙◌, arith, rules, common_steps, Ordering}
use Rattle.std.specs.Prelude.{is_none}
use Rattle.starlark_hash.proofs.EntryLemmas.{length-set_value_at}
use Rattle.starlark_hash.specs.Entries.{Entry, match_of, with_value}
use Rattle.starlark_hash.specs.Insert.{insert_entry}
use Rattle.starlark_hash.specs.declared.hashed.Hashed.{Hashed}
use Rattle.starlark_small.specs.Map.{Map}
use Rattle.starlark_runs.specs.Memory.{EndsWith, HasMemory, Memory, MemoryRun, ceiling_after, indexed_after, length_asked, memory_after, memory_of}
use Rattle.starlark_runs.specs.Run.{Run, Step}
use Rattle.starlark_runs.specs.declared.command.Command.{Command}
use Rattle.starlark_runs.specs.declared.command.Command.TheVariants.{Len}
use Rattle.starlark_runs.specs.declared.command.Reply.{Reply}
use Rattle.starlark_runs.specs.declared.command.Reply.TheVariants.{Done}

module _ {K V : Type 0} where
  pub length-with_value : (es : List (Entry K V)) (index : Option ℕ) (value : V) → length (with_value es index value) ≡ length es
  length-with_value es index value = grind (arith, common_steps, length-set_value_at)

  -- an insertion lengthens the list by one if the key is new, and else not at all; `RoomLemmas` uses it
  pub length-inserted : (eq : K → K → Bool) (es : List (Entry K V)) (key : Hashed K) (value : V) → length (insert_entry eq es key value) ≡ cond (is_none (match_of eq es key)) (length es + 1) (length es)
  length-inserted eq es key value = grind (arith, common_steps, length-set_value_at)

-- the memory of a map when a run begins
pub HasMemory-begin : {K V : Type 0} (start : Map K V) → HasMemory start (memory_of start) start
HasMemory-begin start = record { room = omega arith; capacity = omega arith; indexed = refl }

-- a map has the memory that the definitions compute, also after a command
pub HasMemory-after : {K V R : Type 0} (eq : K → K → Bool) (start old new : Map K V) (memory : Memory) (command : Command K V) (reply : Reply K V R) → HasMemory start memory old
    → ((ceiling : ℕ) → ceiling ≤ length old.entries + old.room → ceiling_after eq ceiling old.entries command reply ≤ length new.entries + new.room)
    → new.capacity ≤ max old.capacity (max 4 (2 * length_asked eq old.entries command))
    → new.indexed ≡ indexed_after eq old.indexed old.entries command reply
    → HasMemory start (memory_after eq memory old.entries command reply) new
HasMemory-after eq start old new memory command reply has room capacity indexed =
    record { room = room memory.ceiling has.room; capacity = omega arith; indexed = cc }

module _ {K V R : Type 0} (eq : K → K → Bool) (cmp : K → K → Ordering) (shows : Entry K V → R → Type 0) where
  -- the list after a command is the one that its reply determines
  pub Step-entries : (old : List (Entry K V)) (command : Command K V) (reply : Reply K V R) (new end : List (Entry K V))
      → Step eq cmp shows old command reply new → Step eq cmp shows old command reply end → new ≡ end
  Step-entries old Len Done new end p q = absurd p
  Step-entries old command Done new end p q = first_of (cc, search rules)
  Step-entries old command reply new end p q = first_of (cc, search rules)

  -- a run with its memory is a run
  pub Run-of_memory : (first : Memory) (old : List (Entry K V)) (commands : List (Command K V)) (replies : List (Reply K V R)) (new : List (Entry K V)) (last : Memory)
      → MemoryRun eq cmp shows first old commands replies new last → Run eq cmp shows old commands replies new
  Run-of_memory first old [] [] new last run = run.0
  Run-of_memory first old (command ∷ commands) (reply ∷ replies) new last run =
      (run.0, run.1, Run-of_memory (memory_after eq first old command reply) run.0 commands replies new last run.3)
  Run-of_memory first old commands replies new last run = absurd assumption

  -- all runs with memory of the same commands and replies end with one memory
  MemoryRun-last : (first : Memory) (old : List (Entry K V)) (commands : List (Command K V)) (replies : List (Reply K V R)) (new end : List (Entry K V)) (last other : Memory)
      → MemoryRun eq cmp shows first old commands replies new last → MemoryRun eq cmp shows first old commands replies end other → last ≡ other
  MemoryRun-last first old [] [] new end last other p q = p.1 ∙ sym q.1
  MemoryRun-last first old (command ∷ commands) (reply ∷ replies) new end last other p q =
      MemoryRun-last (memory_after eq first old command reply) p.0 commands replies new end last other p.3 (rw (← Step-entries old command reply p.0 q.0 p.1 q.1) at q.3)
  MemoryRun-last first old commands replies new end last other p q = absurd assumption

  -- if one run with memory ends with a memory of which this is true, each such run does
  pub EndsWith-last : (start : Map K V) (commands : List (Command K V)) (replies : List (Reply K V R)) (new : List (Entry K V)) (last : Memory) (so : Memory → Type 0)
      → MemoryRun eq cmp shows (memory_of start) start.entries commands replies new last → so last → EndsWith eq cmp shows start commands replies new so
  EndsWith-last start commands replies new last so run holds =
      λ other also. subst so (MemoryRun-last (memory_of start) start.entries commands replies new new last other run also) holds
