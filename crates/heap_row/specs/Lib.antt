pub mod Fits
pub mod Heap
pub mod Row
