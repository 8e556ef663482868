pub mod Parts
pub mod Remainders
pub mod Removals
pub mod Rows
pub mod Settled
