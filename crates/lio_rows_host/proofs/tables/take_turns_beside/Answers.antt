use denote.Exit.{yes}
use denote.Param.Send.{arg_send, arg_sync, param_send, param_sync, shr_sync}
use Rattle.std.proofs.Crossing.{sync}
use Rattle.lio_table.proofs.ScriptCrossing.{script-sync}
use Rattle.lio_table.proofs.Crossing.{seat-send, table-sync}
use Rattle.lio_rows_host.proofs.Crossing.{captures-sync}
use Rattle.lio_rows_host.proofs.tables.take_turns_beside.Goals as goal

pub for_each_mut-requires-send-T : goal.for_each_mut-requires-send-T
for_each_mut-requires-send-T g c κs within = param_send 1 _ (arg_send _ yes _ seat-send)

pub for_each_mut-requires-sync-F : goal.for_each_mut-requires-sync-F
for_each_mut-requires-sync-F g c κs within =
    param_sync 2 _ (arg_sync _ yes _ (captures-sync _ _ _ _ _
    (shr_sync _ _ _ c.type_bounds.sync-R)
    (shr_sync _ _ _ sync)
    (shr_sync _ _ _ table-sync)
    (shr_sync _ _ _ script-sync)))
