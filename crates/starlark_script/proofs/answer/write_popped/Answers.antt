use Rattle.starlark_script.proofs.EntriesLemmas.{popped}
use Rattle.starlark_script.proofs.answer.write_popped.Goals as goal

pub returns-in-Some-clause-entries : goal.returns-in-Some-clause-entries
returns-in-Some-clause-entries g c = popped c.args.map.now.entries c.pop.new.self.entries c.pop.ensures.removes.entries
