use Rattle.starlark_hash.proofs.Common.{ℕ, List, Option, Bool, ◌∙◌, ap, refl, rules, subst, sym, Bor, Mut, IsPermutation, ⊤, option_and_then, option_map}
use Rattle.starlark_hash.specs.Search.{CanSearch, Searches}
use Rattle.starlark_table.specs.Table.{Table, item_in, items_under, members}
use Rattle.starlark_table.proofs.TableLemmas.{member_at-items_under}
use Rattle.starlark_small.specs.Hashes.{hash_under, indices_under, numbered}
use Rattle.starlark_small.proofs.Transport.{can_transport, transported}
use Rattle.starlark_small.proofs.Kept.{indices-moved}
use Rattle.starlark_small.proofs.index.hash_table.HashTable.find.Goals as goal

-- a table that has each index of a list under its hash is searched as the list is
module _ {F : Type 0} (g : Mut F (Bor ℕ × Unit {0}) Bool) (hs : List ℕ) (t : Table ℕ) (bag : IsPermutation (numbered hs) (members t)) (hash : ℕ) (eq : F) where
  can_in : CanSearch g (indices_under hash hs) eq → CanSearch g (items_under hash t) eq
  can_in may = can_transport g g (λ f. f) (λ _. ⊤) (λ p. (p.1, p.1)) (items_under hash t) (λ p among s b n sees called. (tt, called)) (indices_under hash hs) eq (indices-moved hs t hash bag) (λ p among s sees takes. takes) tt may

  found_in : (slot : Option ℕ) (last : F) → Searches g (items_under hash t) eq slot last → Searches g (indices_under hash hs) eq (option_and_then (item_in t) slot) last
  found_in slot last search =
      transported g g (λ f. f) (λ _. ⊤) (λ p. (p.1, p.1)) (items_under hash t) (λ p among s b n sees called. (tt, called)) (option_and_then (item_in t)) refl (λ p among. ap (option_map (λ m. m.1)) (member_at-items_under hash t p among))
      (indices_under hash hs) eq last slot (indices-moved hs t hash bag) tt search

pub find_item_unchecked-requires-clause-callable : goal.find_item_unchecked-requires-clause-callable
find_item_unchecked-requires-clause-callable g c =
    let bag = subst (λ h. IsPermutation (numbered h.list) (members c.self.inside.table)) c.self.view_is c.self.invariant.bag in
    let may : CanSearch g.F.FnMut (items_under (hash_under c.args.hash) c.self.inside.table) c.args.eq = can_in g.F.FnMut _ c.self.inside.table bag (hash_under c.args.hash) c.args.eq c.requires in search (rules, may)

pub returns : goal.returns
returns g c =
    let found = c.in_ok-index.ensures in
    let bag = subst (λ h. IsPermutation (numbered h.list) (members c.self.inside.table)) c.self.view_is c.self.invariant.bag in (
      found.1,
      subst (λ o. Searches g.F.FnMut (indices_under (hash_under c.args.hash) c.args.self.now.list) c.args.eq o found.1) (sym found.3) (found_in g.F.FnMut _ c.self.inside.table bag (hash_under c.args.hash) c.args.eq found.0 found.1 found.2),
    )

pub returns-in_err-index : goal.returns-in_err-index
returns-in_err-index g c =
    let found = c.in_err-index.ensures in
    let bag = subst (λ h. IsPermutation (numbered h.list) (members c.self.inside.table)) c.self.view_is c.self.invariant.bag in (
      found.1,
      subst (λ o. Searches g.F.FnMut (indices_under (hash_under c.args.hash) c.args.self.now.list) c.args.eq o found.1) (sym found.3 ∙ sym c.from_residual.ensures)
          (found_in g.F.FnMut _ c.self.inside.table bag (hash_under c.args.hash) c.args.eq found.0 found.1 found.2),
    )
