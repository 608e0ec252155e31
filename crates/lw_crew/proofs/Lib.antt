pub mod Slots
pub mod Continue
pub mod Back
pub mod Claiming
pub mod Refusing
mod Crossing
