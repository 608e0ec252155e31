-- Whether an answer has found something.
use Rattle.std.specs.Prelude.{IsSome}
use Rattle.lw_call.specs.declared.answer.Answer.{Answer}
use Rattle.lw_call.specs.declared.answer.Answer.TheVariants as answers

-- what was asked for is there; a change number is not looked for
abbrev pub IsFound : Answer → Type 0
IsFound (answers.Registration found) = IsSome found
IsFound (answers.Watched found) = IsSome found
IsFound (answers.Expired found) = IsSome found
IsFound (answers.Changed number) = ⊥
