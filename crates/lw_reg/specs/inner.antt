pub mod Addr
pub mod Fields
pub mod Repr
pub mod BodyOrGone
