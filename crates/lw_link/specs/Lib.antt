pub mod Link
pub mod Characters
pub mod Grammar
pub mod Spelling
pub mod Faults
pub mod Printing
pub mod WellFormed
pub mod inner
