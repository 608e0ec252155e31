pub mod Memory
pub mod Order
pub mod Reading
pub mod Writing
