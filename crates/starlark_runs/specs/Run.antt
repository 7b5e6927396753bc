-- The effect of commands on a list of entries.
use Rattle.std.specs.Prelude.{◌≡◌, ◌-◌, Bool, true, false, List, [], ◌∷◌, ◌++◌, length, map, remove, reverse, slice_get, Option, Some, None, ⊤}
use Rattle.std.specs.Borrow.{Bor}
use Rattle.std.specs.Fn.{Shared}
use Rattle.std.specs.Option.{option_map}
use Rattle.std.specs.declared.cmp.Ordering.{Ordering}
use Rattle.starlark_hash.specs.Entries.{Entry, entry_key, entry_value, entry_at, pair_of, value_at, with_value, without, match_of}
use Rattle.starlark_hash.specs.Insert.{insert_entry}
use Rattle.starlark_hash.specs.Sort.{Ascends, sorted_by_key}
use Rattle.starlark_runs.specs.declared.command.Command.{Command}
use Rattle.starlark_runs.specs.declared.command.Command.TheVariants.{Look, At, First, Last, Len, Insert, Change, Remove, RemoveAt, Pop, Clear, Reverse, Reserve, DropIndex, Sort}
use Rattle.starlark_runs.specs.declared.command.Reply.{Reply}
use Rattle.starlark_runs.specs.declared.command.Reply.TheVariants.{Found, Shown, Count, Old, Refused, Taken, TakenHashed, Done, NoMemory}

-- whether a reply is a refusal
abbrev pub is_refusal : {K V R : Type 0} → Reply K V R → Bool
is_refusal (Refused key value) = true
is_refusal NoMemory = true
is_refusal reply = false

-- for each reply whether it is a refusal
abbrev pub refusals : {K V R : Type 0} → List (Reply K V R) → List Bool
refusals replies = map is_refusal replies

-- r is what is shown of the entry, or none if there is no entry
abbrev pub IsShown : {E R : Type 0} → (E → R → Type 0) → Option E → Option R → Type 0
IsShown shows None None = ⊤
IsShown shows (Some e) (Some r) = shows e r
IsShown shows entry shown = ⊥

-- the entry that a command shows, if any
abbrev pub entry_shown : {K V : Type 0} → (K → K → Bool) → List (Entry K V) → Command K V → Option (Entry K V)
entry_shown eq es (Look key) = entry_at es (match_of eq es key)
entry_shown eq es (At i) = slice_get es i
entry_shown eq es First = slice_get es 0
entry_shown eq es Last = slice_get es (length es - 1)
entry_shown eq es command = None

module _ {K V R : Type 0} (eq : K → K → Bool) (cmp : K → K → Ordering) (shows : Entry K V → R → Type 0) where
  -- from the list `old` a map may give this reply to the command and go on to the list `new`. There is one case for each
  -- command and each reply that it may have; the last case excludes all others. `Refused` may only answer an `Insert` of a
  -- new key, and `NoMemory` only a `Reserve`, or a `Sort` of a list whose keys do not ascend. Refusals leave the list
  -- unchanged
  abbrev pub Step : List (Entry K V) → Command K V → Reply K V R → List (Entry K V) → Type 0
  Step old (Look key) (Found found) new =
      (option_map (λ p. p.0) found ≡ match_of eq old key)
      × IsShown shows (entry_shown eq old (Look key)) (option_map (λ p. p.1) found)
      × (new ≡ old)
  Step old (At i) (Shown shown) new = IsShown shows (entry_shown eq old (At i)) shown × (new ≡ old)
  Step old First (Shown shown) new = IsShown shows (entry_shown eq old First) shown × (new ≡ old)
  Step old Last (Shown shown) new = IsShown shows (entry_shown eq old Last) shown × (new ≡ old)
  Step old Len (Count n) new = (n ≡ length old) × (new ≡ old)
  Step old (Insert key value) (Old before) new = (before ≡ value_at old (match_of eq old key)) × (new ≡ insert_entry eq old key value)
  -- only a new key is refused: it comes back with its value
  Step old (Insert key value) (Refused k v) new = (match_of eq old key ≡ None) × (k ≡ key) × (v ≡ value) × (new ≡ old)
  Step old (Change key value) (Old before) new = (before ≡ value_at old (match_of eq old key)) × (new ≡ with_value old (match_of eq old key) value)
  Step old (Remove key) (Taken taken) new =
      (taken ≡ option_map pair_of (entry_at old (match_of eq old key))) × (new ≡ without old (match_of eq old key))
  Step old (RemoveAt i) (TakenHashed taken) new = (taken ≡ slice_get old i) × (new ≡ remove old i)
  Step old Pop (Taken taken) new = (taken ≡ option_map pair_of (slice_get old (length old - 1))) × (new ≡ remove old (length old - 1))
  Step old Clear Done new = new ≡ []
  Step old Reverse Done new = new ≡ reverse old
  -- room is made or refused, or the hash index is dropped: the entries are unchanged
  Step old (Reserve n) Done new = new ≡ old
  Step old (Reserve n) NoMemory new = new ≡ old
  Step old DropIndex Done new = new ≡ old
  Step old Sort Done new = new ≡ sorted_by_key cmp old
  -- only a list that does not ascend is refused
  Step old Sort NoMemory new = (Ascends cmp old → ⊥) × (new ≡ old)
  -- no other reply is given
  Step old command reply new = ⊥

  -- a step for each command in turn, with one reply to each, leads from old to new
  abbrev pub Run : List (Entry K V) → List (Command K V) → List (Reply K V R) → List (Entry K V) → Type 0
  Run old [] [] new = new ≡ old
  Run old (command ∷ commands) (reply ∷ replies) new = (next : List (Entry K V)) × Step old command reply next × Run next commands replies new
  Run old commands replies new = ⊥

  -- if an entry is shown in one way only, every run of these commands on this list with these refusals gives these replies
  -- and leads to this list. Refusals count as inputs, and everything else is determined
  abbrev pub IsDetermined : List (Entry K V) → List (Command K V) → List (Reply K V R) → List (Entry K V) → Type 0
  IsDetermined old commands replies new =
      ((e : Entry K V) (r s : R) → shows e r → shows e s → r ≡ s)
      → (others : List (Reply K V R)) (end : List (Entry K V)) → Run old commands others end → refusals others ≡ refusals replies
      → (others ≡ replies) × (end ≡ new)

module _ {F K V R : Type 0} (g : Shared F (Bor K × (Bor V × Unit {0})) R) where
  -- the closure `look` may be called at references to the entry's key and value
  abbrev pub TakesEntry : F → Entry K V → Type 0
  TakesEntry look e = (key : Bor K) (value : Bor V) → key.now ≡ entry_key e → value.now ≡ entry_value e → g.pre look (key, (value, tt))

  -- a call of `look` at references to the entry's key and value may return r
  pub record Shows (look : F) (e : Entry K V) (r : R) : Type 0 where
    pub key : Bor K
    pub value : Bor V
    pub points : (key.now ≡ entry_key e) × (value.now ≡ entry_value e)
    pub met : g.post look (key, (value, tt)) r

  -- `look` may be called on each entry that a command shows, after those before it are done; the other entries do not matter
  pub record CanShow (eq : K → K → Bool) (cmp : K → K → Ordering) (look : F) (start : List (Entry K V)) (commands : List (Command K V)) : Type 0 where
    pub at : (before : List (Command K V)) (command : Command K V) (after : List (Command K V)) (replies : List (Reply K V R)) (now : List (Entry K V)) (e : Entry K V)
        → commands ≡ before ++ command ∷ after → Run eq cmp (Shows look) start before replies now
        → entry_shown eq now command ≡ Some e → TakesEntry look e
