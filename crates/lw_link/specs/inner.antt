pub mod Faults
pub mod Machine
pub mod Runs
pub mod Taking
