pub mod Answered
pub mod Arrays
pub mod Exact
pub mod Laid
pub mod Pastes
pub mod Widths
