pub mod Knots
pub mod Notes
