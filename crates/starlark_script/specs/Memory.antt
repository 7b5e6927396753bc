-- The room and the hash index of the map after a line.
use Rattle.std.specs.Prelude.{◌≡◌, ◌<◌, ◌≤◌, ⊤, false, nat_le, if◌then◌else◌, length}
use Rattle.starlark_script.specs.Line.{Line, Reserve, Slim}
use Rattle.starlark_small.specs.Index.{unindexed}
use Rattle.starlark_small.specs.Map.{Map}

-- after `reserve` there is room for this many new entries; after `slim` there is no hash index if the list is short enough
-- to do without, and otherwise the one that was there
abbrev pub LeavesMemory : {K V : Type 0} → Map K V → Map K V → Line → Type 0
LeavesMemory old new (Reserve additional) = additional ≤ new.room
LeavesMemory old new Slim = new.indexed ≡ (if nat_le (length old.entries) unindexed then false else old.indexed)
LeavesMemory old new line = ⊤

-- there is not the room that `reserve` asks for
abbrev pub LacksRoom : {K V : Type 0} → Map K V → Line → Type 0
LacksRoom old (Reserve additional) = old.room < additional
LacksRoom old line = ⊤
