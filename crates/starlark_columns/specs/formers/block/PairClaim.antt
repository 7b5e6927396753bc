-- `PairClaim` as a type constructor in its second cells, so that a recursive type may use it. It holds no value of its
-- parameter.
use Rattle.std.specs.Prelude.{ℕ}
use mathlib.Core.Path.{refl}
use mathlib.Core.Former.{Former, const, this, via}
use base.Fml.{fsep}
use denote.RattleType.{RattleType}
use denote.RawPtr.{Ptr}
use denote.Memory.{lone}
use denote.Sharing.{said, nothing, beside}
use denote.Struct.Struct.{Struct}
use denote.Struct.Owning.{shape, to}
use denote.HoleLaws.{Alike}
use denote.HolePlaces.{Recodes}
use denote.Param.Weighed.{Weighed, w_const, w_via}
use Rattle.std.specs.declared.alloc.Allocator.{Ghosts}
use Rattle.std.specs.declared.marker.PhantomData.{PhantomData}
use Rattle.starlark_columns.specs.Pair.{arrays_apart, arrays_claimed}
use Rattle.starlark_columns.specs.declared.block.PairClaim.{PairClaim}
use Rattle.starlark_columns.specs.contracts.block.PairClaim as claim

abbrev pub Parts : Type 0 → Type 0
Parts A = PhantomData Ptr × Ptr × Ptr × ℕ × A

abbrev pub parts_of : (U X A : Type 0) → PairClaim U X A → Parts A
parts_of U X A d = (d.mark, d.firsts, d.seconds, d.count, d.alloc)

abbrev pub of_parts : (U X A : Type 0) → Parts A → PairClaim U X A
of_parts U X A v = record { mark = v.0; firsts = v.1; seconds = v.2; count = v.3; alloc = v.4 }

abbrev pub the_former : Former {0} → Type 0 → Type 0 → Former {0}
the_former g U A = via (const (Parts A)) (λ X. PairClaim U (g.Of X) A) (λ X. parts_of U (g.Of X) A) (λ X. of_parts U (g.Of X) A) (λ X d. refl) (λ X v. refl)

abbrev pub the_weighed : {g : Former {0}} → Weighed g → (U A : Type 0) → Weighed (the_former g U A)
the_weighed {g} w U A = w_via (w_const (Parts A)) (λ X. PairClaim U (g.Of X) A) (λ X. parts_of U (g.Of X) A) (λ X. of_parts U (g.Of X) A) (λ X d. refl) (λ X v. refl)

module _ (U A : RattleType) (G : Ghosts A.Denot) (R R' : RattleType) (h : R.Denot → R'.Denot) where
  pub the_places : Alike R R' h → Alike (claim.the_row U R A G) (claim.the_row U R' A G) ((the_former this U.Denot A.Denot).map R.Denot R'.Denot h)
  the_places a = record {
    mir_same = refl;
    own_same = λ d i vs. fsep ((Struct (shape (claim.the_type U R A G))).own_val (to (claim.the_type U R A G) d) vs)
        (fsep (arrays_apart (lone U.mir) (lone (a.mir_same i)) d.firsts d.seconds d.count) (arrays_claimed (lone U.mir) (lone (a.mir_same i)) (G.dealloc_token d.alloc) d.firsts d.seconds d.count));
    shr_same = λ d i b o. beside ((Struct (shape (claim.the_type U R A G))).shr_at (to (claim.the_type U R A G) d) b o) (beside (said (arrays_apart (lone U.mir) (lone (a.mir_same i)) d.firsts d.seconds d.count)) nothing);
  }

  pub the_codes_placed : Recodes R R' h → Recodes (claim.the_row U R A G) (claim.the_row U R' A G) ((the_former this U.Denot A.Denot).map R.Denot R'.Denot h)
  the_codes_placed e d = refl
