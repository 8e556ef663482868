pub mod Differing
pub mod Fair
pub mod Hidden
