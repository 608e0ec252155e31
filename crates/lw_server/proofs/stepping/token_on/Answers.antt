use Rattle.std.proofs.Common.{◌∙◌, refl, sym, arith}
use Rattle.std.proofs.lemmas.Bool.{false≢true}
use Rattle.lw_call.proofs.Equality.{same_paths}
use Rattle.lw_server.proofs.Steps.{looked_at_next, looked_at_none, none_behind, none_of_many}
use Rattle.lw_server.proofs.stepping.token_on.Goals as goal

pub loop-watch-init : goal.loop-watch-init
loop-watch-init c = looked_at_none _ _ _ _

pub loop-watch-preserved : goal.loop-watch-preserved
loop-watch-preserved c =
    looked_at_next _ _ _ _ _ _ _ (c.in_ok-_shown._shown, c.in_ok-_shown.watch) c.loop-watch.invariant
    c.as_ref.ensures.value c.in_ok-_shown.ensures.read
    (λ same. false≢true (c.if-eq.ensures ∙ (same_paths c.in_ok-_shown.watch.path c.args.path).1 same))

pub returns-then-eq : goal.returns-then-eq
returns-then-eq c =
    let watched = c.in_ok-_shown.ensures.read in (
      c.in_ok-_shown.watch,
      record {
        registration = c.in_ok-_shown._shown;
        named = watched.0;
        lives = watched.1.lives;
        on = (same_paths c.in_ok-_shown.watch.path c.args.path).0 (sym c.if-eq.ensures);
      },
      refl,
    )

pub returns-in_err-_shown : goal.returns-in_err-_shown
returns-in_err-_shown c =
    rw c.from_residual.ensures
    (none_behind _ _ _ _ _ _ _ c.loop-watch.invariant c.as_ref.ensures.value c.in_err-_shown.ensures.read)

pub returns : goal.returns
returns c = none_of_many _ _ _ _ _ _ c.loop-watch.invariant (omega arith)
