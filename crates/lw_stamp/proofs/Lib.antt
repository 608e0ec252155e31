pub mod StampLemmas
pub mod TextLemmas
