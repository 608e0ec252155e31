pub mod Known
pub mod Run
pub mod World
pub mod Laws
pub mod Chains
pub mod inner
