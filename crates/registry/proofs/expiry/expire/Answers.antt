use Rattle.registry.proofs.expiry.expire.Goals as goal

pub returns-in-Ok : goal.returns-in-Ok
returns-in-Ok c =
    let told = c.in_ok-text.ensures in
    record {
      found = told.0;
      is_found = told.1;
      ended = c.in-Ok.field-0;
      sweeps = c.in-Ok.ensures.read;
      text_is = told.2;
    }
