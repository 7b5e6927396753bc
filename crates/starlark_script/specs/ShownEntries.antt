-- The entries of a map of strings, their keys as bytes.
use Rattle.std.specs.Prelude.{ℕ, ℤ, List, map, string_bytes}
use Rattle.std.specs.declared.string.String.{String}
use Rattle.std.specs.declared.alloc.Global.{Global}
use Rattle.starlark_hash.specs.Entries.{Entry, entry_hash, entry_key, entry_value}
use Rattle.starlark_hash.specs.HashValue.{hashed}
use Rattle.starlark_script.specs.Replies.{Entries}

-- an entry with the bytes of its key in place of the text
abbrev pub shown_entry : Entry (String Global) ℤ → Entry (List ℕ) ℤ
shown_entry e = (hashed (entry_hash e) (string_bytes (entry_key e)), entry_value e)

-- the entries in order, their keys as bytes
abbrev pub entries_of : List (Entry (String Global) ℤ) → Entries
entries_of es = map shown_entry es
