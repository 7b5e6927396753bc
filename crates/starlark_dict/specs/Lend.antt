-- What a `Dict` ends as, once a reference into it has ended.
use Rattle.std.specs.Prelude.{◌≡◌, Bool, Option}
use Rattle.std.specs.Borrow.{Fml, GName, RattleType, MutBor, LendsSo, follows}
use Rattle.std.specs.HashMap.Lent.{HashMembers}
use Rattle.std_collections.specs.Layout.HashMapValues.{with_values}
use Rattle.starlark_dict.specs.Dict.{Dict, values, WritesThrough}
use Rattle.starlark_dict.specs.contracts.dict.Dict as C

-- a map's type, as the logic holds it
abbrev pub dict_row : (K V : RattleType) → HashMembers K.Denot → RattleType
dict_row K V key = C.the_row K V (record { eq = key.eq }) (record { hash_input = key.hash_input })

module _ (K V : RattleType) (key : HashMembers K.Denot) (d : MutBor (Dict K.Denot V.Denot)) where
  -- the key that passes the test has the last value written through r, and at `None` the map stays as it is
  abbrev pub lends_get : (K.Denot → Bool) → Option (MutBor V.Denot) → Fml
  lends_get test r = LendsSo (dict_row K V key) V d r (λ n w. WritesThrough key.eq test d.now w n) (λ n. n ≡ d.now)

  -- the map ends with the values that the loan of this name ends with, each in its place, and all else stays
  abbrev pub values_follow : GName → Fml
  values_follow γ = follows (dict_row K V key) (dict_row K V key) d.ghost_name γ (λ n. with_values d.now (values n))
