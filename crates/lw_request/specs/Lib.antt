pub mod Options
pub mod Queries
pub mod Objects
pub mod Report
pub mod Reply
pub mod Steps
pub mod Meaning
pub mod inner
