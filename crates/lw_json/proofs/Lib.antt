pub mod TokenLemmas
pub mod WordLemmas
