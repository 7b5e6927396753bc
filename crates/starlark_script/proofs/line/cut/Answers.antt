use Rattle.starlark_hash.proofs.Common.{lit<}
use Rattle.std.proofs.lemmas.Str.Pattern.{split_parts}
use Rattle.starlark_script.proofs.FieldFacts.{cut-fields}
use Rattle.starlark_script.proofs.line.cut.Goals as goal

pub returns : goal.returns
returns c = cut-fields c.args.text.now c.split_once.result (split_parts 32 c.args.text.now c.split_once.result c.split_once.ensures.cases (lit< tt))
