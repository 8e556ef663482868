pub mod Bounds
pub mod Kept
pub mod Queues
pub mod Showing
