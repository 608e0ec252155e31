pub mod Message
pub mod Grammar
pub mod Faults
pub mod Fits
pub mod Number
pub mod Code
pub mod Header
pub mod inner
