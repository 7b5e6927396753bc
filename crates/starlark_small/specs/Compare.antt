-- Lists of entries compared with no regard to order.
use Rattle.std.specs.Prelude.{Bool, ◌&&◌, ◌==◌, List, length}
use Rattle.std.specs.List.{list_all}
use Rattle.std.specs.Option.{option_eq}
use Rattle.starlark_hash.specs.declared.hashed.Hashed.{Hashed}
use Rattle.starlark_hash.specs.Entries.{Entry, value_at, match_of}

module _ {K V : Type 0} (key_eq : K → K → Bool) (value_eq : V → V → Bool) where
  -- whether both lists have an entry with this hash and an equal key, and equal values there, or neither has one
  abbrev pub agree_at : List (Entry K V) → List (Entry K V) → Hashed K → Bool
  agree_at ds es key = option_eq value_eq (value_at ds (match_of key_eq ds key)) (value_at es (match_of key_eq es key))

  -- whether the lists are equally long, and agree at the hash and key of each entry of either. For lists without a repeated entry
  -- this means: equally long, and each hash and key of one is found in the other with an equal value
  abbrev pub same_entries : List (Entry K V) → List (Entry K V) → Bool
  same_entries ds es = (length ds == length es) && (list_all (λ d. agree_at ds es d.0) ds && list_all (λ e. agree_at ds es e.0) es)
