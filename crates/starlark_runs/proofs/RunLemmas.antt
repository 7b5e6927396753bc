-- Relations between the definitions on a run.
use Rattle.starlark_hash.proofs.Common.{◌≡◌, List, [], ◌∷◌, Option, Some, None, refl, sym, ap, Bor, option_map, Bool, Ordering, none-some}
use Rattle.std.specs.Fn.{Shared}
use Rattle.std.proofs.lemmas.Option.{some_pair_parts}
use Rattle.starlark_hash.specs.Entries.{Entry, entry_key, entry_value, pair_of}
use Rattle.starlark_runs.specs.declared.command.Command.{Command}
use Rattle.starlark_runs.specs.declared.command.Reply.{Reply}
use Rattle.starlark_runs.specs.Run.{IsShown, Step, Shows, TakesEntry, CanShow, entry_shown}

module _ {F K V R : Type 0} (g : Shared F (Bor K × (Bor V × Unit {0})) R) (look : F) where
  -- a call at references to an entry's parts shows the entry
  pub shown-by_call : (entry : Option (Entry K V)) (key : Bor K) (value : Bor V) (r : R) → Some (key.now, value.now) ≡ option_map pair_of entry → g.post look (key, (value, tt)) r
      → IsShown (Shows g look) entry (Some r)
  shown-by_call None key value r is met = absurd (none-some (key.now, value.now) (sym is))
  shown-by_call (Some e) key value r is met =
      record { key = key; value = value; points = some_pair_parts key.now (entry_key e) value.now (entry_value e) is; met = met }

  -- a call at references to an entry's parts is allowed, if every present entry may be shown
  pub takes-at_call : (entry : Option (Entry K V)) (key : Bor K) (value : Bor V) → Some (key.now, value.now) ≡ option_map pair_of entry → ((e : Entry K V) → entry ≡ Some e → TakesEntry g look e)
      → g.pre look (key, (value, tt))
  takes-at_call None key value is takes = absurd (none-some (key.now, value.now) (sym is))
  takes-at_call (Some e) key value is takes =
      let parts = some_pair_parts key.now (entry_key e) value.now (entry_value e) is in
      takes e refl key value parts.0 parts.1

  module _ (eq : K → K → Bool) (cmp : K → K → Ordering) where
    -- the entries that a run may show may be shown after its first command
    pub can_show-after : (old next : List (Entry K V)) (command : Command K V) (commands : List (Command K V)) (reply : Reply K V R)
        → CanShow g eq cmp look old (command ∷ commands) → Step eq cmp (Shows g look) old command reply next → CanShow g eq cmp look next commands
    can_show-after old next command commands reply can step =
        record { at = λ before shown after replies now e split run is. can.at (command ∷ before) shown after (reply ∷ replies) now e (ap (λ cs. command ∷ cs) split) (next, step, run) is }

    -- the entry that the first command shows may be shown
    pub can_show-now : (old : List (Entry K V)) (command : Command K V) (commands : List (Command K V))
        → CanShow g eq cmp look old (command ∷ commands) → (e : Entry K V) → entry_shown eq old command ≡ Some e → TakesEntry g look e
    can_show-now old command commands can e is = can.at [] command commands [] old e refl refl is
