pub mod Orderly
pub mod Prompt
pub mod Sound
pub mod Tight
