-- The texts of faults.
use Rattle.std.specs.Prelude.{ℕ, List, codes}
use Rattle.starlark_map.specs.declared.json.fault.JsonFault.{JsonFault}
use Rattle.starlark_map.specs.declared.json.fault.JsonFault.TheVariants.{NotObject, NotArray, NotText, NotInteger, Memory}

-- the text that a fault prints
abbrev pub fault_text : JsonFault → List ℕ
fault_text NotObject = codes "the value is no object"
fault_text NotArray = codes "the value is no array"
fault_text NotText = codes "an item is no text"
fault_text NotInteger = codes "a value is no integer of 64 bits"
fault_text Memory = codes "out of memory"
