pub mod Laws
pub mod Outputs
pub mod Reading
pub mod Writing
