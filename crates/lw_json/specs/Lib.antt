pub mod PathText
pub mod Json
pub mod Changes
pub mod Notifications
pub mod Answer
pub mod Lines
pub mod inner
