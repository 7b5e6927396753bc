-- What a run accepts without a refusal: as many entries as the map has held before, or as were reserved.
use Rattle.std.specs.Prelude.{◌≡◌, ◌+◌, ◌<◌, ℕ, suc, Bool, List, ◌∷◌, ◌++◌, length, ⊤}
use Rattle.std.specs.declared.cmp.Ordering.{Ordering}
use Rattle.starlark_hash.specs.Entries.{Entry}
use Rattle.starlark_runs.specs.Run.{Run, Step}
use Rattle.starlark_runs.specs.declared.command.Command.{Command}
use Rattle.starlark_runs.specs.declared.command.Command.TheVariants.{DropIndex, Insert, Reserve}
use Rattle.starlark_runs.specs.declared.command.Reply.{Reply}
use Rattle.starlark_runs.specs.declared.command.Reply.TheVariants.{Done, Refused}

module _ {K V R : Type 0} where
  -- the reply does not refuse an insertion
  abbrev pub IsAccepted : Reply K V R → Type 0
  IsAccepted (Refused key value) = ⊥
  IsAccepted reply = ⊤

  -- until a `DropIndex` the next n insertions are accepted
  abbrev pub AcceptsNext : ℕ → List (Command K V) → List (Reply K V R) → Type 0
  AcceptsNext (suc n) (DropIndex ∷ commands) replies = ⊤
  AcceptsNext (suc n) (Insert key value ∷ commands) (reply ∷ replies) = IsAccepted reply × AcceptsNext n commands replies
  AcceptsNext (suc n) (command ∷ commands) (reply ∷ replies) = AcceptsNext (suc n) commands replies
  AcceptsNext n commands replies = ⊤

module _ {K V R : Type 0} (eq : K → K → Bool) (cmp : K → K → Ordering) (shows : Entry K V → R → Type 0) where
  -- until a `DropIndex` each insertion is accepted that leaves the list at n entries or fewer
  abbrev pub AcceptsUpTo : ℕ → List (Entry K V) → List (Command K V) → List (Reply K V R) → Type 0
  AcceptsUpTo n old (DropIndex ∷ commands) replies = ⊤
  AcceptsUpTo n old (command ∷ commands) (reply ∷ replies) =
      (next : List (Entry K V)) × Step eq cmp shows old command reply next × (length old < n → IsAccepted reply) × AcceptsUpTo n next commands replies
  AcceptsUpTo n old commands replies = ⊤

  -- at each point of the run, from there on it accepts insertions up to the number of entries that the list has there
  abbrev pub AcceptsWhatItHeld : List (Entry K V) → List (Command K V) → List (Reply K V R) → Type 0
  AcceptsWhatItHeld start commands replies =
      (before after : List (Command K V)) (first later : List (Reply K V R)) (now : List (Entry K V)) → commands ≡ before ++ after → replies ≡ first ++ later
      → Run eq cmp shows start before first now → AcceptsUpTo (length now) now after later

  -- after each reservation of n, from there on the run accepts insertions up to n entries more than the list has there
  abbrev pub AcceptsWhatItReserved : List (Entry K V) → List (Command K V) → List (Reply K V R) → Type 0
  AcceptsWhatItReserved start commands replies =
      (n : ℕ) (before after : List (Command K V)) (first later : List (Reply K V R)) (now : List (Entry K V)) → commands ≡ before ++ Reserve n ∷ after → replies ≡ first ++ Done ∷ later
      → Run eq cmp shows start before first now → AcceptsUpTo (length now + n) now after later

  -- after each reservation of n, the next n insertions are accepted
  abbrev pub AcceptsReserved : List (Entry K V) → List (Command K V) → List (Reply K V R) → Type 0
  AcceptsReserved start commands replies =
      (n : ℕ) (before after : List (Command K V)) (first later : List (Reply K V R)) (now : List (Entry K V)) → commands ≡ before ++ Reserve n ∷ after → replies ≡ first ++ Done ∷ later
      → Run eq cmp shows start before first now → AcceptsNext n after later
