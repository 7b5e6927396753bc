use Rattle.starlark_hash.proofs.Common.{◌∙◌}
use Rattle.starlark_hash.specs.HashValue.{hash_of, key_of}
use Rattle.starlark_script.proofs.EntriesLemmas.{value-entries_of}
use Rattle.starlark_script.proofs.answer.get.Goals as goal

pub returns : goal.returns
returns c =
    c.copied.ensures ∙ (rw (c.as_ref.ensures.hash, c.as_ref.ensures.key) at c.get_hashed.ensures.value)
    ∙ value-entries_of c.args.map.now.entries (hash_of c.args.key) (key_of c.args.key).0.now
