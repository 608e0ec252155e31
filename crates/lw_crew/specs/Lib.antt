pub mod Continues
pub mod Jobs
pub mod Gather
pub mod Refusals
pub mod inner
