pub mod Events
pub mod Fleet
pub mod Line
pub mod Run
pub mod Steps
pub mod Texts
pub mod Walk
