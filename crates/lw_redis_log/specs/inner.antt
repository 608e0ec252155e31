pub mod Logins
pub mod Settings
pub mod Times
