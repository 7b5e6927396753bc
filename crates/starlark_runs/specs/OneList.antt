-- Runs on two maps with one list of entries.
use Rattle.std.specs.Prelude.{◌≡◌, ◌↔◌, ◌⊎◌, Bool, false, List}
use Rattle.std.specs.List.{All}
use Rattle.std.specs.declared.cmp.Ordering.{Ordering}
use Rattle.starlark_hash.specs.Entries.{Entry}
use Rattle.starlark_runs.specs.Run.{Run, is_refusal, refusals}
use Rattle.starlark_runs.specs.declared.command.Command.{Command}
use Rattle.starlark_runs.specs.declared.command.Reply.{Reply}
use Rattle.starlark_small.specs.Map.{Map}

module _ {K V R : Type 0} where
  -- the reply is no refusal
  abbrev pub IsGranted : Reply K V R → Type 0
  IsGranted reply = is_refusal reply ≡ false

  -- the replies refuse the same commands
  abbrev pub SameRefused : List (Reply K V R) → List (Reply K V R) → Type 0
  SameRefused replies others = refusals replies ≡ refusals others

  -- neither list of replies has a refusal
  abbrev pub NoneRefused : List (Reply K V R) → List (Reply K V R) → Type 0
  NoneRefused replies others = All IsGranted replies × All IsGranted others

  -- an entry is shown in one way only
  abbrev pub IsShownOnce : (Entry K V → R → Type 0) → Type 0
  IsShownOnce shows = (e : Entry K V) (r s : R) → shows e r → shows e s → r ≡ s

module _ {K V R : Type 0} (eq : K → K → Bool) (cmp : K → K → Ordering) (shows : Entry K V → R → Type 0) where
  -- the runs from the first list are the runs from the second: the same replies may be given, and lead to the same list
  abbrev pub HaveSameRuns : List (Entry K V) → List (Entry K V) → Type 0
  HaveSameRuns first second =
      (commands : List (Command K V)) (replies : List (Reply K V R)) (end : List (Entry K V)) → Run eq cmp shows first commands replies end ↔ Run eq cmp shows second commands replies end

  -- two runs of the same commands, one from each list, have equal replies and lead to one list if their replies are `so`
  abbrev pub AgreeWhere : (List (Reply K V R) → List (Reply K V R) → Type 0) → List (Entry K V) → List (Entry K V) → Type 0
  AgreeWhere so first second =
      (commands : List (Command K V)) (replies others : List (Reply K V R)) (new end : List (Entry K V))
      → Run eq cmp shows first commands replies new → Run eq cmp shows second commands others end → so replies others
      → (replies ≡ others) × (new ≡ end)

  -- either no command was begun on the map, or all are done
  abbrev pub RunsOrStays : Map K V → Map K V → List (Command K V) → Type 0
  RunsOrStays old new commands = (new ≡ old) ⊎ ((replies : List (Reply K V R)) × Run eq cmp shows old.entries commands replies new.entries)
