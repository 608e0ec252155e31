use Rattle.std.proofs.Common.{◌≡◌, ◌+◌, ◌-◌, ◌≤◌, ◌++◌, List, length, take, vec_len, vec_capacity}
use Rattle.lw_call.specs.declared.reply.Reply.{Reply}
use Rattle.lw_replica.specs.Rounds.{Makes}
use Rattle.lw_replica.proofs.state.ReplicaState.make.Given as goal

abbrev pub invariant-loop-call : goal.invariant-loop-call
invariant-loop-call l = record {
  room : vec_len l.replies + (length l.calls - l.call-index) ≤ vec_capacity l.replies;
  made : (more : List Reply) × (l.replies.items ≡ l.initial.replies.items ++ more) × Makes l.initial.self.node (take l.call-index l.calls) more l.self.node;
  only : l.self ≡ record l.initial.self { node = l.self.node };
}
