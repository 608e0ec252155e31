-- What became of the jobs of a round, read from the transcripts of the passes.
use Rattle.std.specs.Prelude.{ℕ, Bool, true, false, ◌&&◌, if◌then◌else◌, List, [], Option, Some, None, slice_get, unwrap_or, Ok, Err}
use Rattle.std.specs.Option.{option_and_then, option_map_or}
use Rattle.std.specs.List.{filter_map, flat_map}
use Rattle.lw_call.specs.Contents.{SentContent}
use Rattle.lw_call.specs.declared.call.Call.{Call}
use Rattle.lw_call.specs.declared.call.Call.TheVariants as calls
use Rattle.lw_call.specs.declared.merge_fault.MergeFault.TheVariants as merging
use Rattle.lw_call.specs.declared.reply.Reply.{Reply}
use Rattle.lw_call.specs.declared.reply.Reply.TheVariants as replies
use Rattle.lw_held.specs.declared.entry.Part.{Part}
use Rattle.lw_held.specs.Transcript.{Transcript}
use Rattle.lw_crew.specs.declared.job.Done.{Done}
use Rattle.lw_crew.specs.declared.job.Job.{Job}
use Rattle.lw_crew.specs.declared.job.JobOutcome.{JobOutcome}
use Rattle.lw_crew.specs.declared.job.JobOutcome.TheVariants.{At, NoMemory, NoSuchNode}
use Rattle.lw_serve.specs.Jobs.{merges_of}

-- the part that the job's call made, if one was made; a pass's number is its place
abbrev pub part_at : List Transcript → JobOutcome → Option Part
part_at passes (At pass number) = option_and_then (λ transcript. slice_get transcript.parts number) (slice_get passes pass)
part_at passes NoMemory = None
part_at passes NoSuchNode = None

-- what was sent, if the part is of a Send that found memory
abbrev pub sent_of : Reply → Option SentContent
sent_of (replies.Send (Ok sent)) = Some sent
sent_of reply = None

abbrev pub sent_at : List Transcript → JobOutcome → Option SentContent
sent_at passes outcome = option_and_then (λ part. sent_of part.entry.reply) (part_at passes outcome)

-- the change number since which a node sends next: that of its last delta, or else the one before
abbrev pub change_after : List ℕ → List Transcript → Done → ℕ
change_after since passes done = option_map_or (λ sent. sent.change) (sent_at passes done.result) (unwrap_or (slice_get since done.job) 0)

-- the merges of what a node has sent, at all others of so many
abbrev pub merges_in : ℕ → Part → List Job
merges_in nodes part = option_map_or (λ sent. merges_of part.node sent.delta nodes) (sent_of part.entry.reply) []

abbrev pub merges_after : ℕ → List Transcript → Done → List Job
merges_after nodes passes done = option_map_or (merges_in nodes) (part_at passes done.result) []

-- the call is a Merge
abbrev pub is_merge : Call → Bool
is_merge (calls.Merge bytes) = true
is_merge call = false

-- the reply is that of a Merge that found no memory
abbrev pub is_out_of_memory : Reply → Bool
is_out_of_memory (replies.Merge (Err (merging.NoMemory joined))) = true
is_out_of_memory reply = false

-- no memory was found for the call, or for a merge within it
abbrev pub wants_memory : List Transcript → JobOutcome → Bool
wants_memory passes NoMemory = true
wants_memory passes outcome = option_map_or (λ part. is_out_of_memory part.entry.reply) (part_at passes outcome) false

-- the job that was done, where it is a Merge that found no memory
abbrev pub refused_merge : List Job → List Transcript → Done → Option Job
refused_merge jobs passes done = option_and_then (λ job. if is_merge job.call && wants_memory passes done.result then Some job else None) (slice_get jobs done.job)

-- the merges that found no memory, in job order
abbrev pub refused_merges : List Job → List Transcript → List Done → List Job
refused_merges jobs passes dones = filter_map (refused_merge jobs passes) dones

-- the merges of all that was sent, in job order
abbrev pub merges_after_all : ℕ → List Transcript → List Done → List Job
merges_after_all nodes passes dones = flat_map (merges_after nodes passes) dones
