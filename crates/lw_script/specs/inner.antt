pub mod Fields
pub mod Progress
