use Rattle.starlark_hash.proofs.Common.{arith, length-map}
use Rattle.starlark_vecmap.specs.EntryList.{entry_of}
use Rattle.starlark_vecmap.proofs.ColumnComparison.{clones-columns}
use Rattle.starlark_vecmap.proofs.vec_map.VecMap.clone.Goals as goal

pub returns-clause-entries : goal.returns-clause-entries
returns-clause-entries g c =
    rw (← c.self.view_is) (clones-columns g.K.Clone.is_clone g.V.Clone.is_clone c.self.inside.columns.pairs c.in_ok-clone.field-0.pairs c.in_ok-clone.ensures.pairs)

pub returns-clause-same : goal.returns-clause-same
returns-clause-same g c = λ keys values.
    let copied = c.in_ok-clone.ensures.same (λ x y is j. (keys x.0 y.0 is.0 j, values x.1 y.1 is.1 j)) (λ x y is. is) in
    grind (arith, copied, length-map c.self.inside.columns.pairs entry_of, c.self.view_is)
