use Rattle.lw_server.proofs.hearing.watch_at.Goals as goal

pub returns : goal.returns
returns c = (c.in_ok-_shown._shown, c.in_ok-_shown.ensures.read)
