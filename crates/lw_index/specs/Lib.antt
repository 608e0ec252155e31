pub mod Index
pub mod Places
pub mod inner
