-- `insert_hashed` meets its contract, at any types. Assumes `Logic`.
use Rattle.starlark_columns.proofs.LogicNames.{◌≡◌, refl, [], ◌∷◌, sep, fact, Ty, a_type, bounded, dcons, dnil, tcons, tnil, ty_int, ty_struct, w32, RattleType, arg, arg_laws, layout, yes, param, param_laws, None}
use Rattle.starlark_hash.specs.contracts.hashed.Hashed as H
use Rattle.starlark_hash.proofs.hashed.Hashed.TheLaws as hashed_laws
use Rattle.starlark_hash.specs.Hasher.{own_hash}
use Rattle.starlark_hash.specs.HashValue.{hash_of, key_of}
use Rattle.starlark_unordered.specs.Pairs.{found, pairs_of}
use Rattle.starlark_unordered.proofs.LentInsertion.{Handed, handed_laws, inserts}
use Rattle.starlark_unordered.proofs.raw_entry.RawVacantEntryMut.place_hashed as place
use Rattle.starlark_unordered.proofs.raw_entry.lend_placed as lend
use Rattle.starlark_unordered.specs.contracts.raw_entry.RawVacantEntryMut.insert_hashed as contract
use Rattle.starlark_unordered.proofs.raw_entry.RawVacantEntryMut.insert_hashed as routine

pub insert_hashed_spec : {M : Type 1} → routine.Statement.statement M
insert_hashed_spec 𝓤 𝓛 𝓜 𝓡 wired K V LK LV E dE P dP G dG is_eq is_partial is_hash =
    let Key : RattleType = H.the_row (param 0 K) in let LKey = hashed_laws.the_row_laws (param 0 K) (param_laws 0 K LK) in
    let ds = dcons dE (dcons dP (dcons dG dnil)) in let args = bounded (a_type ∷ a_type ∷ []) (K, (V, tt)) ds in
    -- the type of what a refusal returns, as a call passes it, without its names
    let hashed : Ty = ty_struct [] (tcons (ty_struct [] (tcons (ty_int w32) tnil)) (tcons (layout K) tnil)) in
    let nameless : Ty = ty_struct [] (tcons (ty_struct [] (tcons hashed (tcons (layout V) tnil))) tnil) in let Passed = arg nameless yes (Handed V Key) in
    inserts K V Key nameless key_of E dE P dP G dG 𝓛 𝓜 𝓡
    (λ m key. sep 𝓤 (fact 𝓤 (hash_of key ≡ own_hash G.hash_input (key_of key))) (fact 𝓤 (found (P.eq (key_of key)) (pairs_of m) ≡ None)))
    LK LV LKey (hashed_laws.the_within (param 0 K)) (λ x f. tt) (place.Symbol.name args) (lend.Symbol.name (bounded (a_type ∷ a_type ∷ a_type ∷ []) (K, (V, (Passed, tt))) ds))
    (place.Met.met 𝓤 𝓛 𝓜 𝓡 (routine.Code.calls-starlark_unordered::raw_entry::RawVacantEntryMut::place_hashed 𝓡.env wired) K V LK LV E dE P dP G dG is_eq is_partial is_hash)
    (lend.Met.met 𝓤 𝓛 𝓜 𝓡 (routine.Code.calls-starlark_unordered::raw_entry::lend_placed 𝓡.env wired) K V Passed LK LV (arg_laws nameless yes (Handed V Key) (handed_laws V Key LV LKey) refl) E dE P dP G dG is_eq is_partial is_hash)
    (contract.Key.name args) (routine.Code.unfolded 𝓤 𝓛.H 𝓜 𝓡 wired (K, (V, tt)) dE dP dG)
