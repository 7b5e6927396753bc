use Rattle.starlark_hash.proofs.Common.{Some, ap, ◌∙◌, rules, w64, to_z-of_z}
use Rattle.starlark_hash.specs.HashValue.{hash_of, key_of}
use Rattle.starlark_script.proofs.EntriesLemmas.{removed, value-entries_of}
use Rattle.starlark_script.proofs.answer.remove_key.Goals as goal

pub returns-in_err-_key-clause-old : goal.returns-in_err-_key-clause-old
returns-in_err-_key-clause-old c =
    c.from_residual.ensures ∙ (rw (c.as_ref.ensures.hash, c.as_ref.ensures.key) at c.in_err-_key.ensures.value)
    ∙ value-entries_of c.args.map.now.entries (hash_of c.args.key) (key_of c.args.key).0.now

pub returns-in_err-_key-clause-entries : goal.returns-in_err-_key-clause-entries
returns-in_err-_key-clause-entries c =
    removed c.args.map.now.entries c.shift_remove_hashed_entry.new.self.entries (hash_of c.args.key) (key_of c.args.key).0.now
    (rw (c.as_ref.ensures.hash, c.as_ref.ensures.key) at c.shift_remove_hashed_entry.ensures.removes.entries)

pub returns-clause-old : goal.returns-clause-old
returns-clause-old c =
    ap Some (to_z-of_z w64 c.in_ok-_key.value (search rules))
    ∙ (rw (c.as_ref.ensures.hash, c.as_ref.ensures.key) at c.in_ok-_key.ensures.value)
    ∙ value-entries_of c.args.map.now.entries (hash_of c.args.key) (key_of c.args.key).0.now

pub returns-clause-entries : goal.returns-clause-entries
returns-clause-entries c =
    removed c.args.map.now.entries c.shift_remove_hashed_entry.new.self.entries (hash_of c.args.key) (key_of c.args.key).0.now
    (rw (c.as_ref.ensures.hash, c.as_ref.ensures.key) at c.shift_remove_hashed_entry.ensures.removes.entries)
