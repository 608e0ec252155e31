-- What may cross threads: a job, and a board.
use denote.Param.Send.{IsSync, sendable}
use Rattle.std.proofs.Crossing.{crosses}
use Rattle.lw_crew.proofs.board.Board.TheSendSync.{the_field_sync as board_field}
use Rattle.lw_crew.proofs.job.Job.TheSendSync.{the_field_sync as job_field}
use Rattle.lw_crew.specs.contracts.board.Board as Board
use Rattle.lw_crew.specs.contracts.job.Job as Job

pub job_whole : IsSync Job.the_row
job_whole = search (job_field, sendable, crosses) depth 40

pub board_whole : IsSync Board.the_row
board_whole = search (board_field, sendable, crosses) depth 40
