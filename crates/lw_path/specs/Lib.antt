pub mod PathText
pub mod inner
