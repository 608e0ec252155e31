pub mod Calls
pub mod Done
pub mod Exchange
pub mod Observe
pub mod Twice
pub mod Within
