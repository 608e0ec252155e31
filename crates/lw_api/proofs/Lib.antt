pub mod Knowing
pub mod ChangeLemmas
pub mod NoticeLemmas
pub mod WatchLemmas
