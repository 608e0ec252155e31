pub mod Entries
pub mod Recent
pub mod inner
