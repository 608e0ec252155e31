pub mod Delta
pub mod Lent
pub mod Part
pub mod Unread
pub mod Writing
