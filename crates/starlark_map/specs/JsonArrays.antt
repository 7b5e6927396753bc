-- Sets of texts as JSON arrays. `Data`, `Items`, `as_array` and related definitions are those of `serde_json` for its
-- `Value`.
use Rattle.std.specs.Prelude.{◌≡◌, List, [], ◌∷◌, ◌⊎◌, Option, Some, MatchOption, map, option_and_then}
use Rattle.std.specs.Option.{option_map}
use Rattle.std.specs.Str.{bytes_eq}
use Rattle.serde_json.specs.Data.{Data, array, string, Items, no_items, item}
use Rattle.serde_json.specs.Find.{as_array, as_str}
use Rattle.serde_json.specs.View.{items_of}
use Rattle.starlark_hash.specs.Entries.{Entry}
use Rattle.starlark_small.specs.Collect.{insert_all}
use Rattle.starlark_map.specs.JsonTexts.{Text, own_text}
use Rattle.starlark_map.specs.declared.json.fault.JsonFault.{JsonFault}
use Rattle.starlark_map.specs.declared.json.fault.JsonFault.TheVariants.{NotArray, NotText, Memory}

-- the elements of a set, each a text with its hash
abbrev pub TextElements : Type 0
TextElements = List (Entry Text (Unit {0}))

-- the array of these texts, in their order
abbrev pub array_of : List Text → Data
array_of texts = array (items_of (map string texts))

-- the items in order, each text with its own hash; none if an item is not a text
abbrev pub elements_of_items : Items → Option TextElements
elements_of_items no_items = Some []
elements_of_items (item d ds) = option_and_then (λ text. option_map (λ es. (own_text text, tt) ∷ es) (elements_of_items ds)) (as_str d)

-- the elements of the set that a value represents: an array's items, inserted one after the other, so that a text keeps
-- its first index
abbrev pub set_entries : Data → Option TextElements
set_entries d = option_map (insert_all bytes_eq []) (option_and_then elements_of_items (as_array d))

-- the faults when these items are read: the first item that is not a text, or a refusal of memory at an item before it
abbrev pub IsItemFault : Items → JsonFault → Type 0
IsItemFault no_items fault = ⊥
IsItemFault (item d ds) fault = MatchOption (as_str d) (fault ≡ NotText) (λ text. (fault ≡ Memory) ⊎ IsItemFault ds fault)

-- the faults when this value is read as a set: it is not an array, or reading its items fails
abbrev pub IsSetFault : Data → JsonFault → Type 0
IsSetFault d fault = MatchOption (as_array d) (fault ≡ NotArray) (λ ds. IsItemFault ds fault)
