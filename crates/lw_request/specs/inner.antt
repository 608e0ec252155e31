pub mod Meaning
pub mod Objects
pub mod Parameters
pub mod Queries
pub mod Reply
