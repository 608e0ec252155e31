pub mod InputLemmas
pub mod OneLemmas
pub mod NodeLemmas
pub mod EndingLemmas
pub mod ReplayLemmas
pub mod CommandLemmas
pub mod HttpLemmas
pub mod RedisLemmas
