pub mod Held
pub mod BlockAnswers
pub mod Reading
pub mod Ready
pub mod Bodies
pub mod Fetches
pub mod PendingRequest
pub mod Responses
