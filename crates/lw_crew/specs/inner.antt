pub mod Claims
pub mod Filling
pub mod Refusals
