-- The content of small maps and sets of strings, with the strings as texts.
use Rattle.std.specs.Prelude.{ℕ, List, map, string_bytes}
use Rattle.std.specs.Cmp.Lexicographic.{slice_cmp}
use Rattle.std.specs.Hash as fed
use Rattle.std.specs.Ordering.{nat_cmp}
use Rattle.std.specs.declared.alloc.Global.{Global}
use Rattle.std.specs.declared.cmp.Ordering.{Ordering}
use Rattle.std.specs.declared.string.String.{String}
use Rattle.starlark_hash.specs.declared.hashed.Hashed.{Hashed}
use Rattle.starlark_hash.specs.Entries.{Entry, entry_hash, entry_key, entry_value}
use Rattle.starlark_hash.specs.HashValue.{hashed}
use Rattle.starlark_small.specs.Map.{own_hashed}

-- a text, as its bytes
abbrev pub Text : Type 0
Text = List ℕ

-- the order of texts: byte by byte
abbrev pub text_cmp : Text → Text → Ordering
text_cmp = slice_cmp nat_cmp

-- a text with its own hash, which is that of the string with these bytes
abbrev pub own_text : Text → Hashed Text
own_text text = own_hashed fed.str text

module _ {V : Type 0} where
  -- an entry with its key as a text, under the same hash
  abbrev pub text_entry : Entry (String Global) V → Entry Text V
  text_entry e = (hashed (entry_hash e) (string_bytes (entry_key e)), entry_value e)

  -- the entries in order, their keys as texts
  abbrev pub text_entries : List (Entry (String Global) V) → List (Entry Text V)
  text_entries es = map text_entry es

  -- the keys in order, as texts
  abbrev pub texts_of : List (Entry (String Global) V) → List Text
  texts_of es = map (λ e. string_bytes (entry_key e)) es

  -- the keys as texts, and the values, in order, without the hashes
  abbrev pub text_pairs_of : List (Entry (String Global) V) → List (Text × V)
  text_pairs_of es = map (λ e. (string_bytes (entry_key e), entry_value e)) es
