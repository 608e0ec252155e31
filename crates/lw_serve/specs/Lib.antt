pub mod Plan
pub mod Jobs
pub mod Outcomes
pub mod Rounds
pub mod Runs
pub mod Ending
pub mod inner
