pub mod Bytes
pub mod Reading
pub mod Replies
pub mod StreamIds
pub mod Streams
pub mod Words
pub mod inner
