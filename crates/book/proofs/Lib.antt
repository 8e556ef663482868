pub mod Onward
pub mod Plays
