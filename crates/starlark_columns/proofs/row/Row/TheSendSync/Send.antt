use Rattle.starlark_columns.proofs.SendSync.{RattleType, IsSend, RowOf, row_send}

pub send : (R : RattleType) → IsSend R → IsSend (RowOf R)
send = row_send
