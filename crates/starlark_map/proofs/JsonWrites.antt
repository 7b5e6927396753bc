-- The result of writing members, or items, one after the other.
use Rattle.starlark_hash.proofs.Common.{◌≡◌, ℤ, cond, List, [], ◌∷◌, ◌++◌, Some, refl, map, string_bytes, arith, common_steps, append-nil, bytes_eq-Decides, option_map, Global, String}
use Rattle.std.proofs.Common.{bytes_eq}
use Rattle.std.proofs.lemmas.Simd.{map-map}
use Rattle.std.specs.Option.{option_or}
use Rattle.serde_json.specs.Data.{Data, number, string, Members, no_members, put}
use Rattle.serde_json.specs.Find.{get_member, of_integer}
use Rattle.serde_json.proofs.Views.{get_member-put, get_member-put_other}
use Rattle.starlark_hash.specs.Entries.{Entry, entry_key, pair_of}
use Rattle.starlark_map.specs.JsonObjects.{put_all, last_value}
use Rattle.starlark_map.specs.JsonTexts.{Text, text_pairs_of, texts_of}

abbrev pub integer : ℤ → Data
integer n = number (of_integer n)

-- the value of a key after a member was put
put_found : (q k : Text) (d : Data) (ms : Members) → get_member q (put k d ms) ≡ cond (bytes_eq q k) (Some d) (get_member q ms)
put_found q k d ms = grind (arith, common_steps, bytes_eq-Decides q k, get_member-put k d ms, get_member-put_other q k d ms)

found_in : (q : Text) (ms : Members) (ps : List (Text × ℤ)) → get_member q (put_all ms ps) ≡ option_or (option_map integer (last_value ps q)) (get_member q ms)
found_in q ms [] = refl
found_in q ms (p ∷ ps) = grind (arith, common_steps, found_in q (put p.0 (integer p.1) ms) ps, put_found q p.0 (integer p.1) ms)

-- each key has its value at its last index
pub get_member-put_all : (q : Text) (ps : List (Text × ℤ)) → get_member q (put_all no_members ps) ≡ option_map integer (last_value ps q)
get_member-put_all q ps = grind (arith, found_in q no_members ps)

-- keys and values as an iterator returns them
abbrev pub text_pairs : List (String Global × ℤ) → List (Text × ℤ)
text_pairs ps = map (λ p. (string_bytes p.0, p.1)) ps

-- the members that were made, when the iterator is at its end
pub all_put : (es : List (Entry (String Global) ℤ)) (made : Members) (left whole : List (String Global × ℤ)) → whole ≡ map pair_of es → left ≡ []
    → put_all made (text_pairs left) ≡ put_all no_members (text_pairs whole) → made ≡ put_all no_members (text_pairs_of es)
all_put es made left whole walk none goes = simp (none, walk, map-map) at goes

-- the strings, each as the data of a value
abbrev pub strings : List (String Global) → List Data
strings ss = map (λ s. string (string_bytes s)) ss

-- the data that was pushed, when the iterator is at its end
pub all_pushed : {V : Type 0} (es : List (Entry (String Global) V)) (made : List Data) (left whole : List (String Global)) → whole ≡ map entry_key es → left ≡ []
    → made ++ strings left ≡ strings whole → made ≡ map string (texts_of es)
all_pushed es made left whole walk none goes = simp map-map (simp (none, walk, map-map, append-nil) at goes)
