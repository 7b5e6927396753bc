-- Laws of a `&mut` with a `Result` beside it. Assumes `Logic`. This page re-exports what the proofs over it cite: `L.RS`
-- there is `RS` here.
use Rattle.starlark_columns.proofs.LogicNames.{refl, [], ◌∷◌, Ura, named, ent, Lft, GName, Logic, sem, ‵, ◌$◌, ◌∵◌, !, qed, fpick, fpack, done, ◌⊑◌, ⊑_meet, RattleType, lives_all, in_all, usize, follows_so, such_by, follows_by, MutRef, Last, left, no, param, blank, Laws, of_field, copy_shared, usize-field, usize-laws, usize-copy, Tuple, tuple_laws, result_laws}
use mathlib.Core.Option.{Option}
use lib.Dec.{T}
use Rattle.core.specs.declared.result.Result.TheVariants.{Ok, Err}
pub use base.Share
pub use Rattle.core.specs.contracts.result.Result as RS
pub use Rattle.std.specs.Prelude.{Some}
pub use Rattle.std.specs.declared.cmp.Eq as Eq
pub use Rattle.std.specs.declared.cmp.PartialEq as PartialEq
pub use Rattle.std.specs.declared.hash.Hash as Hash
pub use Rattle.starlark_hash.specs.contracts.no_room.NoRoom as N
pub use Rattle.starlark_hash.specs.declared.no_room.NoRoom.{NoRoom}
pub use Rattle.starlark_hash.proofs.no_room.NoRoom.TheLaws as room_laws
pub use Rattle.starlark_columns.proofs.LoneValue.{lone_value}
pub use Rattle.starlark_columns.proofs.ProofSteps.{mut_laws, shr_laws, good_value}
pub use Rattle.starlark_table.specs.Table.{Table, item_in}
pub use Rattle.starlark_unordered.specs.Pairs.{with_value}
pub use Rattle.starlark_unordered.specs.contracts.unordered_map.UnorderedMap as U
pub use Rattle.starlark_unordered.proofs.unordered_map.UnorderedMap.TheLaws as the_map_laws

pub place_laws : Laws usize
place_laws = of_field usize-field usize-laws refl (copy_shared usize-field usize-copy)

-- the type of a reference and, in a `Result`, a slot
abbrev pub Placed : Lft → (R X : RattleType) → RattleType
Placed κ R X = Tuple (MutRef (named 0) κ R ∷ RS.the_row usize X ∷ [])

pub placed_laws : (κ : Lft) (R X : RattleType) → Laws R → Laws X → Laws (Placed κ R X)
placed_laws κ R X L LX = tuple_laws (MutRef (named 0) κ R ∷ RS.the_row usize X ∷ []) (mut_laws κ R L, (result_laws usize X place_laws LX, tt))

-- once the reference has been taken out of such a value, what is left of it owes nothing to the owner of the loan
pub placed_blank : (κ : Lft) (R X : RattleType) (x : (Placed κ R (param 2 X)).Denot) (f : Last ((Placed κ R (param 2 X)).exit no) x) → T (blank (left ((Placed κ R (param 2 X)).exit no) x f))
placed_blank κ R X (r, Ok i) f = tt
placed_blank κ R X (r, Err e) f = tt

-- a relation to what the whole ends as may be weakened
pub so_weakens : {M : Type 1} {𝓤 : Ura M} (𝓛 : Logic 𝓤) (R T : RattleType) (γ : GName) (n : Option GName) (P Q : T.Denot → R.Denot → Type 0) (P₀ Q₀ : R.Denot → Type 0)
    → ((w : T.Denot) (v : R.Denot) → P w v → Q w v) → ((v : R.Denot) → P₀ v → Q₀ v) → ent 𝓤 (sem 𝓛 (follows_so R T γ n P P₀)) (sem 𝓛 (follows_so R T γ n Q Q₀))
unfolding such_by follows_by
so_weakens 𝓛 R T γ n P Q P₀ Q₀ f f₀ =
    qed 𝓛 (‵ (follows_so R T γ n P P₀) ∷ []) ∵ fpick ! (λ s. fpack ! ((s : (T.Denot → R.Denot) × R.Denot) × ((w : T.Denot) → Q w (s.0 w)) × Q₀ s.1) (λ s. follows_by R.Denot T.Denot R.coded.code T.coded.code γ n s.0.0 s.0.1)
    (s.0, (λ w. f w (s.0.0 w) (s.1 w)), f₀ s.0.1 s.2) $ done !)

-- a lifetime that is within those of two types is within that of their pair
pub both_in : (κ : Lft) (R S : RattleType) → κ ⊑ R.lives → κ ⊑ S.lives → κ ⊑ (Tuple (R ∷ S ∷ [])).lives
both_in κ R S r s = let each = in_all κ (R ∷ S ∷ []) (r, (s, tt)) in ⊑_meet κ (lives_all (R ∷ S ∷ [])) (lives_all (R ∷ S ∷ [])) each each
