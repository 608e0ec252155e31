pub mod TextLemmas
pub mod IndexLemmas
pub mod IndexCalls
pub mod EntryLemmas
pub mod PlaceLemmas
