pub mod Recognised
pub mod Paths
pub mod ObjectLemmas
pub mod QueryLemmas
pub mod AttributeLemmas
pub mod Meanings
pub mod OneMeaning
pub mod SomeMeaning
