use Rattle.std.proofs.Common.{sym, ◌∙◌, subst}
use Rattle.std.specs.Prelude.{IsUtf8}
use Rattle.lw_redis_log.specs.Errors.{is_hidden}
use Rattle.lw_redis_log.proofs.Places.{found, not_found, printed_text}
use Rattle.lw_redis_log.proofs.errors.printed.Goals as goal

pub returns-in-Some : goal.returns-in-Some
returns-in-Some c =
    let value = found is_hidden c.args.text.now c.in-Some.place (sym c.in-Some.ensures) in
    record { value = value; text = subst (λ xs. IsUtf8 xs) (sym value) (printed_text c.args.text.now) }

pub returns-in-None : goal.returns-in-None
returns-in-None c =
    let value = not_found is_hidden c.args.text.now (sym c.in-None.ensures) in
    record { value = value; text = subst (λ xs. IsUtf8 xs) (sym value) (printed_text c.args.text.now) }
