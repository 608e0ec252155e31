pub mod Batches
pub mod Rounds
pub mod Sorting
pub mod Devices
pub mod Reports
pub mod Stepping
