pub mod Answers
pub mod Codes
pub mod Making
pub mod Ranks
pub mod Refusals
pub mod Tenors
pub mod Soonest
