-- The exit status and the text of a fault.
use Rattle.std.specs.Prelude.{ℕ, List, ◌++◌, codes, decimal}
use Rattle.starlark_script.specs.declared.fault.PlayFault.{PlayFault}
use Rattle.starlark_script.specs.declared.fault.PlayFault.TheVariants.{BadLine, Memory, Io}

-- the exit status of a fault
abbrev pub status_of : PlayFault → ℕ
status_of (BadLine line) = 2
status_of Memory = 3
status_of Io = 4

-- the text of a fault on standard error
abbrev pub text_of : PlayFault → List ℕ
text_of (BadLine line) = codes "line " ++ decimal line ++ codes ": bad line"
text_of Memory = codes "out of memory"
text_of Io = codes "input or output failed"
