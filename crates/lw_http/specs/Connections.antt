-- A connection that is answered, by an API that may stand otherwise after each request.
use Rattle.std.specs.Prelude.{◌≡◌, List, ◌++◌, Option}
use Rattle.http_server.specs.Exchange.{Call, Chain}
use Rattle.http_server.specs.History.{History, IsServed}
use Rattle.http_server.specs.declared.state.Config.{Config}
use Rattle.lw_route.specs.declared.api_query.ApiQuery.{ApiQuery}
use Rattle.lw_route.specs.declared.command.Command.{Command}
use Rattle.lw_route.specs.declared.api.ApiResponse.{ApiResponse}
use Rattle.lw_http.specs.declared.policy.AccessPolicy.{AccessPolicy}
use Rattle.lw_http.specs.Verdicts.{IsTold}

-- each request was told what it is to be told, by the API as the one before has left it
abbrev pub AreTold : {S : Type 0} → AccessPolicy → (S → ApiQuery → ApiResponse → Type 0)
    → (S → Command → Option ApiResponse → S → Type 0)
    → S → List Call → S → Type 0
AreTold policy MayAnswer MayDo = Chain (IsTold policy MayAnswer MayDo)

-- the requests that were answered since then were told what they are to be told
pub record AreAnswered {S : Type 0} (policy : AccessPolicy) (MayAnswer : S → ApiQuery → ApiResponse → Type 0)
    (MayDo : S → Command → Option ApiResponse → S → Type 0) (before : S) (old new : History) (after : S) : Type 0 where
  pub calls : List Call
  pub behind : new.calls ≡ old.calls ++ calls
  pub told : AreTold policy MayAnswer MayDo before calls after

-- a request's line and fields have so many bytes at most, and no request has a body
pub record IsLimited (config : Config) : Type 0 where
  pub head : config.limits.max_head_len ≡ 8192
  pub body : config.max_body_len ≡ 0

-- What was done on a connection: what was sent answers the requests that were received, in order, and each was told
-- what it is to be told. Where it closed, there is a reason for it.
pub record IsConnectionServed {S : Type 0} (policy : AccessPolicy) (MayAnswer : S → ApiQuery → ApiResponse → Type 0)
    (MayDo : S → Command → Option ApiResponse → S → Type 0) (before : S) (all : History) (after : S) : Type 0 where
  pub told : AreTold policy MayAnswer MayDo before all.calls after
  pub config : Config
  pub limited : IsLimited config
  pub served : ∥ IsServed config all ∥₁
