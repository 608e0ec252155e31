pub mod HeldLemmas
pub mod RepeatLemmas
pub mod AnswerLemmas
pub mod RequestLemmas
pub mod BodyLemmas
pub mod TakenLemmas
pub mod SpelledLemmas
mod PendingRequestLemmas
pub mod MessageIdLemmas
pub mod FetchLemmas
pub mod FetchTaken
