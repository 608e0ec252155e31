pub mod Log
pub mod Entries
pub mod EntryFaults
pub mod Calls
pub mod Memory
pub mod Known
pub mod inner
