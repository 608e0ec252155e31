-- Whether a question owns a text, and whether a call owns a text or bytes.
use Rattle.std.specs.Prelude.{IsSome, ⊤}
use Rattle.lw_call.specs.declared.call.Call.{Call}
use Rattle.lw_call.specs.declared.call.Call.TheVariants as calls
use Rattle.lw_call.specs.declared.question.Question.{Question}
use Rattle.lw_call.specs.declared.question.Question.TheVariants as questions

abbrev pub OwnsText : Question → Type 0
OwnsText (questions.ById id) = ⊥
OwnsText (questions.ByEndpoint endpoint) = ⊤
OwnsText (questions.ByAddress address) = ⊥
OwnsText (questions.ByToken token) = ⊥
OwnsText (questions.WatchAfter id after) = ⊥
OwnsText (questions.FirstAfter after) = IsSome after
OwnsText (questions.ExpiredAfter after) = IsSome after
OwnsText questions.Change = ⊥

abbrev pub OwnsTextOrBytes : Call → Type 0
OwnsTextOrBytes (calls.Take now from bytes) = ⊤
OwnsTextOrBytes (calls.Observe now id path accept mid) = ⊥
OwnsTextOrBytes (calls.Cancel now token mid) = ⊥
OwnsTextOrBytes (calls.Send since) = ⊥
OwnsTextOrBytes (calls.Merge bytes) = ⊤
OwnsTextOrBytes (calls.Ask now question) = OwnsText question
OwnsTextOrBytes (calls.Sweep now) = ⊥
