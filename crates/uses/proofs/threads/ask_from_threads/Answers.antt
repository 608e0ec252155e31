-- The first call may be made on another thread: each thing that its closure captures may cross.
use Rattle.std.proofs.Common.{List, [], ◌∷◌}
use Rattle.std.specs.Prelude.{codes}
use denote.Exit.{no}
use denote.Param.Send.{IsSend, AllSend, sendable, param_send, arg_send, recorded_send, struct_send}
use denote.Param.{param}
use denote.RattleType.{RattleType}
use denote.Struct.Declared.{fields, shape, row}
use denote.Struct.Struct.{Struct}
use denote.Struct.Tuple.{type_at}
use denote.Struct.Field.{shr_ref_field}
use mir.Syntax.{named}
use Rattle.lw_call.specs.contracts.call.Call as Call
use Rattle.lw_held.specs.contracts.pass.Pass as Pass
use Rattle.lw_held.specs.contracts.shelf.Shelf as Shelf
use Rattle.lw_held.proofs.Crossing.{shelf_sync, pass_whole}
use Rattle.uses.proofs.Crossing.{call_whole}
use Rattle.uses.proofs.Standing.{all_stand}
use Rattle.uses.proofs.threads.ask_from_threads.Lts.{arg-0-1}
use Rattle.uses.proofs.threads.ask_from_threads.Goals as goal

pub join-first-requires-send-F : goal.join-first-requires-send-F
join-first-requires-send-F g c κs within =
    let rt_row : RattleType = (shr_ref_field (record { mir = named 6; lft = κs.1.1.1.1.1.1.0 }) (param 0 g.row.R) tt).row in
    let shelf_row : RattleType = (shr_ref_field (record { mir = named 7; lft = κs.1.1.1.1.1.1.1.0 }) Shelf.the_row tt).row in
    let call_row : RattleType = (shr_ref_field (record { mir = named 8; lft = κs.1.1.1.1.1.1.1.1.0 }) Call.the_row tt).row in
    let rt : IsSend rt_row = search (c.type_bounds.sync-R, sendable) depth 20 in
    let shelf : IsSend shelf_row = search (shelf_sync, sendable) depth 20 in
    let call : IsSend call_row = search (call_whole, sendable) depth 20 in
    let captured = type_at (codes "uses::threads::fn::ask_from_threads::join+arg2+Self") (rt_row ∷ shelf_row ∷ Pass.the_row ∷ call_row ∷ []) in
    let all : AllSend (fields captured) = (rt, (shelf, (pass_whole, (call, tt)))) in
    let s : IsSend (row captured) = recorded_send (Struct (shape captured)) captured.D captured.to captured.to_one (struct_send (shape captured) all) in
    param_send 1 (arg-0-1 g.row.R g.R.laws g.R.Threads-dict g.R.Wait-dict κs) (arg_send _ no (row captured) s)

pub returns-clause-stand : goal.returns-clause-stand
returns-clause-stand g c = all_stand c.args.shelves.now _ (c.join-first.result.0 ∷ c.join-first.result.1 ∷ []) c.in_ok-settle.ensures.settled
