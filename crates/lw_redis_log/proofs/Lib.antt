pub mod Places
pub mod Beginnings
pub mod Telling
pub mod LoginLemmas
pub mod PageLemmas
pub mod TimeLemmas
