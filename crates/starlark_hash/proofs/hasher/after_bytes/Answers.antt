use Rattle.starlark_hash.proofs.Common.{[], ◌∙◌}
use Rattle.starlark_hash.specs.Hasher.{group, words}
use Rattle.starlark_hash.proofs.hasher.after_bytes.Goals as goal

pub returns : goal.returns
unfolding words
returns c =
    let last = group 1 (λ _. []) in
    c.add_1.ensures ∙ c.add_2.ensures last ∙ c.add_4.ensures (group 2 last) ∙ c.add_each_8.ensures
