pub mod Node
pub mod Effects
pub mod Calls
pub mod Within
pub mod Exchange
pub mod Steps
pub mod Laws
pub mod inner
