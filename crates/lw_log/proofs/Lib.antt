pub mod Keeping
pub mod Seen
pub mod Places
pub mod Deltas
pub mod HeadFaults
pub mod BodyFaults
pub mod Entries
pub mod Bodies
