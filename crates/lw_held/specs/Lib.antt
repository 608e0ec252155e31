pub mod History
pub mod Transcript
pub mod Agree
pub mod Shelves
pub mod Laws
pub mod Joint
pub mod Marked
pub mod inner
