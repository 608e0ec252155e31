-- What may cross threads: a shelf, whose lock holds a node, and a pass.
use denote.Param.Send.{IsSend, IsSync, sendable}
use Rattle.std.proofs.Crossing.{crosses}
use Rattle.std.proofs.MapsCrossing.{crosses as maps}
use Rattle.lw_due.specs.contracts.due_moments.DueMoments as DueMoments
use Rattle.lw_due.proofs.knot.Knot.TheLaws.TheKnot.{crosses as knots}
use Rattle.lw_held.proofs.entry.Entry.TheSendSync.{the_field_send as entry_send}
use Rattle.lw_held.specs.contracts.entry.Part as Part
use Rattle.lw_held.specs.contracts.held.Held as Held
use Rattle.lw_held.specs.contracts.pass.Pass as Pass
use Rattle.lw_held.specs.contracts.shelf.Shelf as Shelf
use Rattle.lw_node.specs.contracts.node.Node as Node
use Rattle.lw_recent.specs.contracts.recent.Recent as Recent
use Rattle.lw_table.proofs.rows.Rows.TheSendSync.{the_field_send as rows_send}
use Rattle.lw_table.specs.contracts.filed.Filed as Filed
use Rattle.lw_table.specs.contracts.table.Table as Table

due_send : IsSend DueMoments.the_field.row
due_send = search (sendable, crosses, knots) depth 40

recent_send : IsSend Recent.the_field.row
recent_send = search (sendable, crosses, maps) depth 40

filed_send : IsSend Filed.the_field.row
filed_send = search (due_send, recent_send, sendable, crosses, maps) depth 40

table_send : IsSend Table.the_field.row
table_send = search (filed_send, rows_send, sendable, crosses, maps) depth 40

node_send : IsSend Node.the_field.row
node_send = search (table_send, sendable, crosses) depth 40

held_send : IsSend Held.the_field.row
held_send = search (node_send, entry_send, sendable, crosses) depth 40

pub shelf_sync : IsSync Shelf.the_row
shelf_sync = search (held_send, sendable, crosses) depth 40

part_send : IsSend Part.the_field.row
part_send = search (entry_send, sendable, crosses) depth 40

pub pass_whole : IsSend Pass.the_row
pass_whole = search (part_send, sendable, crosses) depth 40
