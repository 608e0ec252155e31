pub mod Known
pub mod Answers
pub mod NotificationBuffer
pub mod Notifications
pub mod inner
