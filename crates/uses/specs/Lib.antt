pub mod Embedded
pub mod Finding
pub mod Naming
pub mod Meeting
pub mod Following
pub mod Threads
pub mod Volumes
