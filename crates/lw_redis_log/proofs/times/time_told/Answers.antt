use Rattle.std.specs.Fmt.{decimal}
use Rattle.lw_redis_log.proofs.TimeLemmas.{time_found, time_texts, time_moment, no_both, error_fault}
use Rattle.lw_redis_log.proofs.times.time_told.Goals as goal

pub returns-in-Some-moment_of : goal.returns-in-Some-moment_of
returns-in-Some-moment_of c =
    time_found c.args.bytes.now c.in-Some.seconds.now c.in-Some.microseconds.now c.in-Some-moment_of.told c.in-Some.ensures.found c.in-Some-moment_of.ensures.found

pub returns-in-None-moment_of : goal.returns-in-None-moment_of
returns-in-None-moment_of c = (
  λ told time.
      let same = c.in-Some.ensures.only (decimal time.seconds) (decimal time.microseconds) (time_texts c.args.bytes.now told time) in
      c.in-None-moment_of.ensures.none told (time_moment c.args.bytes.now c.in-Some.seconds.now c.in-Some.microseconds.now told time same.0 same.1),
  λ text error. absurd (no_both c.args.bytes.now c.in-Some.seconds.now c.in-Some.microseconds.now text c.in-Some.ensures.found error),
)

pub returns-in-Some-error_text : goal.returns-in-Some-error_text
returns-in-Some-error_text c =
    error_fault c.args.bytes.now c.in-Some-error_text.text.now c.fault_of.result c.in-Some-error_text.ensures.found c.in-Some-error_text.ensures.only
    (λ told time. c.in-None.ensures.only (decimal time.seconds) (decimal time.microseconds) (time_texts c.args.bytes.now told time)) c.fault_of.ensures

pub returns-in-None-error_text : goal.returns-in-None-error_text
returns-in-None-error_text c = (
  λ told time. c.in-None.ensures.only (decimal time.seconds) (decimal time.microseconds) (time_texts c.args.bytes.now told time),
  λ text error. absurd (c.in-None-error_text.ensures.only text error),
)
