pub mod TokenLemmas
pub mod Told
pub mod SiteLemmas
pub mod ResultLemmas
