pub mod Body
pub mod Writing
