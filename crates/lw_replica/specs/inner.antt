pub mod Going
pub mod ReplicaState
pub mod Seeing
pub mod Taking
pub mod Numbering
pub mod Looking
pub mod Writing
pub mod Snapshots
