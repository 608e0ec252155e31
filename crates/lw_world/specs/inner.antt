pub mod Known
pub mod Sound
