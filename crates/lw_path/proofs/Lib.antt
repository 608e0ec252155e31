pub mod NumberLemmas
pub mod PathLemmas
