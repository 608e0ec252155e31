pub mod TextLemmas
pub mod EscapeLemmas
