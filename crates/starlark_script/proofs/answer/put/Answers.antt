use Rattle.starlark_hash.proofs.Common.{Some, ap, sym, ◌∙◌, rules, w64, to_z-of_z, bytes_eq}
use Rattle.starlark_hash.specs.Entries.{match_of, value_at}
use Rattle.starlark_hash.specs.HashValue.{hash_of, key_of}
use Rattle.starlark_script.specs.Shown.{shown_key}
use Rattle.starlark_script.specs.ShownEntries.{entries_of}
use Rattle.starlark_script.proofs.EntriesLemmas.{value-entries_of, written, lacking}
use Rattle.starlark_script.proofs.Results.{OnErr-always}
use Rattle.starlark_script.proofs.answer.put.Goals as goal

pub returns-in-Some-clause-old : goal.returns-in-Some-clause-old
returns-in-Some-clause-old c =
    ap Some (to_z-of_z w64 c.in-Some.there.now (search rules))
    ∙ (rw (c.as_ref.ensures.hash, c.as_ref.ensures.key) at c.in-Some.ensures.value)
    ∙ value-entries_of c.args.map.now.entries (hash_of c.args.key) (key_of c.args.key).0.now

pub returns-in-Some-clause-entries : goal.returns-in-Some-clause-entries
returns-in-Some-clause-entries c =
    rw (to_z-of_z w64 c.args.value (search rules))
    (ap (λ m. entries_of m.entries) (c.get_mut_hashed.follows.holds c.args.value).0
    ∙ rw (c.as_ref.ensures.hash, c.as_ref.ensures.key)
    (written c.args.map.now.entries (hash_of c.args.key) (key_of c.args.key).0.now c.in-Some.there.now c.args.value
    (rw (c.as_ref.ensures.hash, c.as_ref.ensures.key) at c.in-Some.ensures.value)))

pub insert_copy-requires : goal.insert_copy-requires
insert_copy-requires c =
    ap (λ m. match_of bytes_eq (entries_of m.entries) (shown_key c.args.key)) c.get_mut_hashed.follows.holds-at-none
    ∙ lacking c.args.map.now.entries (hash_of c.args.key) (key_of c.args.key).0.now
    (rw (c.as_ref.ensures.hash, c.as_ref.ensures.key) at c.in_default.ensures.value)

pub returns-in_err-insert_copy-clause-needed : goal.returns-in_err-insert_copy-clause-needed
returns-in_err-insert_copy-clause-needed c =
    OnErr-always c.from_residual.result _
    (lacking c.args.map.now.entries (hash_of c.args.key) (key_of c.args.key).0.now
    (rw (c.as_ref.ensures.hash, c.as_ref.ensures.key) at c.in_default.ensures.value))

pub returns-clause-old : goal.returns-clause-old
returns-clause-old c =
    sym (ap (value_at (entries_of c.args.map.now.entries)) (lacking c.args.map.now.entries (hash_of c.args.key) (key_of c.args.key).0.now
    (rw (c.as_ref.ensures.hash, c.as_ref.ensures.key) at c.in_default.ensures.value)))
