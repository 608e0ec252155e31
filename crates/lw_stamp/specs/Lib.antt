pub mod Order
pub mod StampBytes
pub mod Stamp
pub mod Clock
pub mod Moment
pub mod StampOrder
pub mod TextOrder
pub mod inner
