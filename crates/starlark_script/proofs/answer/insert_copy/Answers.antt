use Rattle.starlark_hash.proofs.Common.{ap, ◌∙◌, string_bytes}
use Rattle.starlark_hash.specs.Entries.{value_at}
use Rattle.starlark_hash.specs.HashValue.{hash_of, key_of}
use Rattle.starlark_script.specs.Shown.{shown_key}
use Rattle.starlark_script.specs.ShownEntries.{entries_of}
use Rattle.starlark_script.proofs.EntriesLemmas.{value-shown}
use Rattle.starlark_script.proofs.answer.insert_copy.Goals as goal

pub push-requires : goal.push-requires
push-requires c =
    value-shown c.args.map.now.entries c.new_unchecked.result (shown_key c.args.key) (ap hash_of c.new_unchecked.ensures ∙ c.hash.ensures)
    (ap (λ k. string_bytes (key_of k)) c.new_unchecked.ensures ∙ c.in-Ok.ensures.ok ∙ ap (λ k. k.0.now) c.key.ensures)
    ∙ ap (value_at (entries_of c.args.map.now.entries)) c.requires
