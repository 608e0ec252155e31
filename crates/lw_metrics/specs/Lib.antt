pub mod ReplyCodes
pub mod Counting
pub mod IoCounters
pub mod Metrics
pub mod Exposition
pub mod Families
