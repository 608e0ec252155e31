pub mod StampBytes
