pub mod Behind
pub mod Finds
pub mod Parts
pub mod Removes
pub mod Rises
pub mod Same
pub mod Sinks
pub mod Sorts
