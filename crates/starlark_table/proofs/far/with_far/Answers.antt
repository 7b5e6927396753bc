use Rattle.starlark_hash.proofs.Common.{◌%◌, inl, inr, arith, ◌∙◌, cases_eq}
use Rattle.std.proofs.Common.{w64}
use Rattle.std.proofs.lemmas.Nat.Bits.{bit_at_set_same, bit_at_set_other}
use Rattle.starlark_table.proofs.far.with_far.Goals as goal

pub returns-clause-its : goal.returns-clause-its
returns-clause-its c = bit_at_set_same w64 c.args.far (c.args.tag % 64) (omega arith)

pub returns-clause-others : goal.returns-clause-others
returns-clause-others c = λ other may. elim (cases_eq (other % 64) (c.args.tag % 64)) [
  | inl same ↦ rw same (bit_at_set_same w64 c.args.far (c.args.tag % 64) (omega arith))
  | inr differs ↦ bit_at_set_other w64 c.args.far (c.args.tag % 64) (omega arith) (other % 64) differs ∙ may
]
