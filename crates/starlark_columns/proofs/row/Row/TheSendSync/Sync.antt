use Rattle.starlark_columns.proofs.SendSync.{RattleType, IsSync, RowOf, row_sync}

pub sync : (R : RattleType) → IsSync R → IsSync (RowOf R)
sync = row_sync
