-- A worker's closure may cross threads: each thing that it captures may.
use denote.Exit.{no}
use denote.Param.Send.{IsSend, AllSend, sendable, param_send, arg_send, recorded_send, struct_send}
use denote.Param.{param}
use denote.Struct.Declared.{fields, shape, row}
use denote.Struct.Struct.{Struct}
use denote.Struct.Tuple.{type_at}
use denote.Struct.Field.{shr_ref_field, shr_slice_field, u32-field}
use mir.Syntax.{named}
use Rattle.lw_crew.specs.contracts.board.Board as Board
use Rattle.lw_crew.specs.contracts.job.Job as Job
use Rattle.lw_held.specs.contracts.shelf.Shelf as Shelf
use Rattle.lw_held.proofs.Crossing.{shelf_sync, pass_whole}
use Rattle.lw_crew.proofs.Crossing.{job_whole, board_whole}
use Rattle.lw_crew.proofs.work.start.Lts.{name-24, of-20, arg-1-2}
use Rattle.lw_crew.proofs.work.start.Goals as goal

pub spawn_with-requires-send-F : goal.spawn_with-requires-send-F
spawn_with-requires-send-F g c κs within =
    let rt : IsSend (shr_ref_field (record { mir = named 6; lft = κs.1.1.1.1.1.1.0 }) (param 1 g.row.R) tt).row = search (c.type_bounds.sync-R, sendable) depth 20 in
    let gate : IsSend (shr_ref_field (record { mir = named 7; lft = κs.1.1.1.1.1.1.1.0 }) (param 2 g.row.G) tt).row = search (c.type_bounds.sync-G, sendable) depth 20 in
    let shelves : IsSend (shr_slice_field (record { mir = named 8; lft = κs.1.1.1.1.1.1.1.1.0 }) Shelf.the_row tt).row = search (shelf_sync, sendable) depth 20 in
    let jobs : IsSend (shr_slice_field (record { mir = named 9; lft = κs.1.1.1.1.1.1.1.1.1.0 }) Job.the_row tt).row = search (job_whole, sendable) depth 20 in
    let board : IsSend (shr_ref_field (record { mir = named 10; lft = κs.1.1.1.1.1.1.1.1.1.1.0 }) Board.the_row tt).row = search (board_whole, sendable) depth 20 in
    let worker : IsSend (u32-field).row = search sendable depth 20 in
    let captured = type_at (name-24 g.row.E g.row.R g.row.G g.E.laws g.R.laws g.G.laws g.R.Threads-dict g.R.Wait-dict g.G.Gate-dict) (of-20 g.row.E g.row.R g.row.G g.E.laws g.R.laws g.G.laws g.R.Threads-dict g.R.Wait-dict g.G.Gate-dict
    (record { mir = named 6; lft = κs.1.1.1.1.1.1.0 })
    (record { mir = named 7; lft = κs.1.1.1.1.1.1.1.0 })
    (record { mir = named 8; lft = κs.1.1.1.1.1.1.1.1.0 })
    (record { mir = named 9; lft = κs.1.1.1.1.1.1.1.1.1.0 })
    (record { mir = named 10; lft = κs.1.1.1.1.1.1.1.1.1.1.0 })) in
    let all : AllSend (fields captured) = (rt, (gate, (shelves, (jobs, (board, (worker, (pass_whole, tt))))))) in
    let s : IsSend (row captured) = recorded_send (Struct (shape captured)) captured.D captured.to captured.to_one (struct_send (shape captured) all) in
    param_send 2 (arg-1-2 g.row.E g.row.R g.row.G g.E.laws g.R.laws g.G.laws g.R.Threads-dict g.R.Wait-dict g.G.Gate-dict κs) (arg_send _ no (row captured) s)
