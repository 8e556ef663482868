pub mod Runs
pub mod Shorthand
