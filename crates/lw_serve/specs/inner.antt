pub mod Outcomes
pub mod Rounds
pub mod Runs
pub mod Volumes
