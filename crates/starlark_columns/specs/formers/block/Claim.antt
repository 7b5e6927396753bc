-- `Claim` as a type constructor, so that a recursive type may use it. It holds no value of its parameter.
use Rattle.std.specs.Prelude.{ℕ, ◌*◌}
use mathlib.Core.Bool.{cond}
use lib.Dec.{eqb}
use mathlib.Core.Path.{refl}
use mathlib.Core.Former.{Former, const, this, via}
use base.Fml.{ftrue, fsep}
use mir.Raw.{raw}
use mir.Syntax.{ty_array}
use prog.Memory.{size}
use denote.RattleType.{RattleType}
use denote.RawPtr.{Ptr}
use denote.Memory.{lone}
use denote.Struct.Struct.{Struct}
use denote.Struct.Owning.{shape, to}
use denote.HoleLaws.{Alike}
use denote.HolePlaces.{Recodes}
use denote.Param.Weighed.{Weighed, w_const, w_via}
use Rattle.std.specs.declared.alloc.Allocator.{Ghosts}
use Rattle.std.specs.declared.marker.PhantomData.{PhantomData}
use Rattle.starlark_columns.specs.declared.block.Claim.{Claim}
use Rattle.starlark_columns.specs.contracts.block.Claim as claim

abbrev pub the_former : Former {0} → Type 0 → Former {0}
the_former g A = via (const (PhantomData Ptr × Ptr × ℕ × A)) (λ X. Claim (g.Of X) A) (λ X d. (d.mark, d.at, d.count, d.alloc)) (λ X v. record { mark = v.0; at = v.1; count = v.2; alloc = v.3 }) (λ X d. refl) (λ X v. refl)

abbrev pub the_weighed : {g : Former {0}} → Weighed g → (A : Type 0) → Weighed (the_former g A)
the_weighed {g} w A = w_via (w_const (PhantomData Ptr × Ptr × ℕ × A)) (λ X. Claim (g.Of X) A) (λ X d. (d.mark, d.at, d.count, d.alloc)) (λ X v. record { mark = v.0; at = v.1; count = v.2; alloc = v.3 }) (λ X d. refl) (λ X v. refl)

module _ (A : RattleType) (G : Ghosts A.Denot) (R R' : RattleType) (h : R.Denot → R'.Denot) where
  pub the_places : Alike R R' h → Alike (claim.the_row R A G) (claim.the_row R' A G) ((the_former this A.Denot).map R.Denot R'.Denot h)
  the_places a = record {
    mir_same = refl;
    own_same = λ d i vs. fsep ((Struct (shape (claim.the_type R A G))).own_val (to (claim.the_type R A G) d) vs) (cond (eqb (d.count * size (lone (a.mir_same i))) 0) ftrue (G.dealloc_token d.alloc (raw (ty_array (lone (a.mir_same i)) d.count)) d.at));
    shr_same = λ d. refl;
  }

  pub the_codes_placed : Recodes R R' h → Recodes (claim.the_row R A G) (claim.the_row R' A G) ((the_former this A.Denot).map R.Denot R'.Denot h)
  the_codes_placed e d = refl
