pub mod Contents
pub mod Found
pub mod Owned
