pub mod StepLemmas
pub mod NumberLemmas
pub mod TagLemmas
pub mod PartLemmas
pub mod PathLemmas
pub mod PathValueLemmas
pub mod RouteLemmas
