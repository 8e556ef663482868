pub mod Obeys
pub mod Openings
