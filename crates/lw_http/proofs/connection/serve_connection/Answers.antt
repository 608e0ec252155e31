use Rattle.std.proofs.Common.{◌≡◌, [], refl, sym, subst}
use Rattle.std.specs.Io.KnownBytes.{Appends, Consumes}
use Rattle.http_server.specs.Connection.{config_of, history}
use Rattle.http_server.proofs.Theorems.{always_served}
use Rattle.lw_http.specs.Connections.{AreTold, IsLimited}
use Rattle.lw_http.proofs.Told.{begun, told_all}
use Rattle.lw_http.proofs.connection.serve_connection.Goals as goal

pub returns : goal.returns
returns g c =
    let start = sym c.new_connection-connection.ensures.history in
    let calls = c.serve-ended.ensures.calls in
    let read = c.serve-ended.ensures.read in
    let written = c.serve-ended.ensures.written in
    let told = told_all g.A.Api.may_answer g.A.Api.may_do calls.0 _ _ calls.2 in
    record {
      served = (
        history c.serve-ended.new.connection,
        record {
          told = begun (λ all. AreTold c.args.policy.now g.A.Api.may_answer g.A.Api.may_do c.args.api all c.serve-ended.new.service.api) _ _ calls.0 calls.1 (subst (λ h. h.calls ≡ []) start refl) told;
          config = config_of c.serve-ended.new.connection;
          limited = subst IsLimited (sym c.serve-ended.ensures.config) c.new_connection-connection.ensures.limited;
          served = always_served c.serve-ended.new.connection;
        },
        begun (Consumes (g.R.Read.remaining c.args.reader.now) (g.R.Read.remaining c.serve-ended.new.reader)) _ _ read.0 read.2 (subst (λ h. h.received ≡ []) start refl) read.1,
        begun (Appends (g.W.Write.contents c.args.writer.now) (g.W.Write.contents c.serve-ended.new.writer)) _ _ written.0 written.2 (subst (λ h. h.sent ≡ []) start refl) written.1,
        c.serve-ended.ensures.done,
      );
    }
