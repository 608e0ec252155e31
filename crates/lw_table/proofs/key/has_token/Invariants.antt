use Rattle.std.proofs.Common.{◌↔◌, Contains, drop}
use Rattle.lw_reg.specs.Reading.{tokens_in}
use Rattle.lw_table.proofs.key.has_token.Given as goal

-- the token is among those that are left, if it is among all
abbrev pub invariant-loop-watching : goal.invariant-loop-watching
invariant-loop-watching l = Contains (tokens_in (drop l.watching-index l.watches)) l.token ↔ Contains (tokens_in l.watches) l.token
