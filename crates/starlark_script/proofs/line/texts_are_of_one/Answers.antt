use Rattle.starlark_script.proofs.UniqueReading.{one-reading}
use Rattle.starlark_script.proofs.line.texts_are_of_one.Goals as goal

pub returns : goal.returns
returns c = one-reading
