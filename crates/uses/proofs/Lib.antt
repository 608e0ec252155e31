pub mod Counts
pub mod Merges
pub mod Rising
pub mod ReadBack
pub mod Notices
pub mod Standing
pub mod Crossing
