use Rattle.starlark_sets.proofs.ordered_map.OrderedMap.extend.Goals as goal

pub returns : goal.returns
returns g c = let takes = c.extend.ensures in rw (← c.self.view_is) (record { found = takes.found; entries = takes.entries; stays = takes.stays; longer = takes.longer; own = takes.own; memory = takes.memory; left = takes.left })
