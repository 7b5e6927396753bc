-- The replies to the lines of a script.
use Rattle.std.specs.Prelude.{◌≡◌, ℕ, ◌-◌, ◌<◌, ℤ, List, [], ◌∷◌, ◌++◌, length, remove, reverse, slice_get, Option, Some, None, codes, decimal, flat_map}
use Rattle.std.specs.Cmp.Lexicographic.{slice_cmp}
use Rattle.std.specs.Fmt.{signed_decimal}
use Rattle.std.specs.Option.{option_map}
use Rattle.std.specs.Ordering.{nat_cmp}
use Rattle.std.specs.Str.{bytes_eq}
use Rattle.std.specs.declared.cmp.Ordering.{Ordering}
use Rattle.starlark_hash.specs.Entries.{Entry, entry_key, entry_value, pair_of, value_at, match_of, without}
use Rattle.starlark_hash.specs.Insert.{insert_entry}
use Rattle.starlark_hash.specs.Sort.{Ascends, sorted_by_key}
use Rattle.starlark_script.specs.Line.{Line, Put, Get, Del, At, Pop, Rev, Sort, Clear, Reserve, Slim, Len, Walk, hash_text}

-- the entries of a script's map in order: hash, bytes of the key, and value. The definitions on lists of entries apply to
-- them, with equality of bytes
abbrev pub Entries : Type 0
Entries = List (Entry (List ℕ) ℤ)

-- the order of keys: the first byte that differs decides, and a key comes before its extensions
abbrev pub bytes_cmp : List ℕ → List ℕ → Ordering
bytes_cmp a b = slice_cmp nat_cmp a b

-- a text and a line feed
abbrev pub ended : List ℕ → List ℕ
ended text = text ++ (10 ∷ [])

-- the reply that shows a value, or that there is none
abbrev pub value_text : Option ℤ → List ℕ
value_text None = ended (codes "none")
value_text (Some value) = ended (codes "some " ++ signed_decimal value)

-- the reply that shows a key and its value, or that there is none
abbrev pub pair_text : Option (List ℕ × ℤ) → List ℕ
pair_text None = ended (codes "none")
pair_text (Some p) = ended (codes "some " ++ p.0 ++ codes " " ++ signed_decimal p.1)

-- the line that shows an entry: the number of its hash, its key and its value
abbrev pub entry_text : Entry (List ℕ) ℤ → List ℕ
entry_text e = ended (hash_text e.0 ++ codes " " ++ entry_key e ++ codes " " ++ signed_decimal (entry_value e))

-- the reply to a line at these entries, including line feeds
abbrev pub reply : Entries → Line → List ℕ
reply es (Put key value) = value_text (value_at es (match_of bytes_eq es key))
reply es (Get key) = value_text (value_at es (match_of bytes_eq es key))
reply es (Del key) = value_text (value_at es (match_of bytes_eq es key))
reply es (At index) = pair_text (option_map pair_of (slice_get es index))
reply es Pop = pair_text (option_map pair_of (slice_get es (length es - 1)))
reply es Rev = ended (codes "ok")
reply es Sort = ended (codes "ok")
reply es Clear = ended (codes "ok")
reply es (Reserve additional) = ended (codes "ok")
reply es Slim = ended (codes "ok")
reply es Len = ended (decimal (length es))
reply es Walk = flat_map entry_text es

-- the entries after a line
abbrev pub after : Entries → Line → Entries
after es (Put key value) = insert_entry bytes_eq es key value
after es (Get key) = es
after es (Del key) = without es (match_of bytes_eq es key)
after es (At index) = es
after es Pop = remove es (length es - 1)
after es Rev = reverse es
after es Sort = sorted_by_key bytes_cmp es
after es Clear = []
after es (Reserve additional) = es
after es Slim = es
after es Len = es
after es Walk = es

-- the lines for which memory may be asked at these entries: `put` of a new key, `sort` of keys that do not ascend, and
-- `reserve` of more than 0
abbrev pub MayNeedMemory : Entries → Line → Type 0
MayNeedMemory es (Put key value) = match_of bytes_eq es key ≡ None
MayNeedMemory es Sort = ¬ (Ascends bytes_cmp es)
MayNeedMemory es (Reserve additional) = 0 < additional
MayNeedMemory es line = ⊥

-- the entries after these lines in turn
abbrev pub entries_after : Entries → List Line → Entries
entries_after es [] = es
entries_after es (l ∷ ls) = entries_after (after es l) ls

-- the replies to these lines in turn, from these entries on
abbrev pub replies : Entries → List Line → List ℕ
replies es [] = []
replies es (l ∷ ls) = reply es l ++ replies (after es l) ls
