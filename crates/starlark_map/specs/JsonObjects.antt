-- Maps to integers as JSON objects. `Data`, `Members`, `put`, `as_object` and related definitions are those of
-- `serde_json` for its `Value`.
use Rattle.std.specs.Prelude.{◌≡◌, ℤ, List, [], ◌∷◌, ◌⊎◌, Option, Some, None, MatchOption, option_and_then, if◌then◌else◌}
use Rattle.std.specs.Option.{option_map, option_or}
use Rattle.std.specs.Str.{bytes_eq}
use Rattle.serde_json.specs.Data.{Data, object, number, Members, no_members, member, put}
use Rattle.serde_json.specs.Find.{as_i64, as_number, as_object, of_integer}
use Rattle.starlark_hash.specs.Entries.{Entry}
use Rattle.starlark_map.specs.JsonTexts.{Text, own_text}
use Rattle.starlark_map.specs.declared.json.fault.JsonFault.{JsonFault}
use Rattle.starlark_map.specs.declared.json.fault.JsonFault.TheVariants.{NotObject, NotInteger, Memory}

-- the entries of a map to integers, their keys as texts
abbrev pub IntegerEntries : Type 0
IntegerEntries = List (Entry Text ℤ)

-- the members after these keys and values were put, one after the other: a key that occurs again takes the later value
abbrev pub put_all : Members → List (Text × ℤ) → Members
put_all ms [] = ms
put_all ms (p ∷ ps) = put_all (put p.0 (number (of_integer p.1)) ms) ps

-- the object with these keys and values
abbrev pub object_of : List (Text × ℤ) → Data
object_of ps = object (put_all no_members ps)

-- the value at the last index of a key
abbrev pub last_value : List (Text × ℤ) → Text → Option ℤ
last_value [] key = None
last_value (p ∷ ps) key = option_or (last_value ps key) (if bytes_eq key p.0 then Some p.1 else None)

-- the integer from -2^63 to 2^63 - 1 that a value is; none for a float
abbrev pub integer_of : Data → Option ℤ
integer_of d = option_and_then as_i64 (as_number d)

-- the members in order, each key with its own hash and its integer; none if a value is not an integer
abbrev pub entries_of_members : Members → Option IntegerEntries
entries_of_members no_members = Some []
entries_of_members (member key d ms) = option_and_then (λ n. option_map (λ es. (own_text key, n) ∷ es) (entries_of_members ms)) (integer_of d)

-- the entries of the map that a value represents: those of an object's members, in order
abbrev pub map_entries : Data → Option IntegerEntries
map_entries d = option_and_then entries_of_members (as_object d)

-- the faults when these members are read: the first value that is not an integer, or a refusal of memory at a member
-- before it
abbrev pub IsMemberFault : Members → JsonFault → Type 0
IsMemberFault no_members fault = ⊥
IsMemberFault (member key d ms) fault = MatchOption (integer_of d) (fault ≡ NotInteger) (λ n. (fault ≡ Memory) ⊎ IsMemberFault ms fault)

-- the faults when this value is read as a map: it is not an object, or reading its members fails
abbrev pub IsMapFault : Data → JsonFault → Type 0
IsMapFault d fault = MatchOption (as_object d) (fault ≡ NotObject) (λ ms. IsMemberFault ms fault)
