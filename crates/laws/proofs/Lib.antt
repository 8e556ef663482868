pub mod Differs
pub mod Entitles
pub mod Fairly
pub mod Hiding
pub mod Leading
pub mod Remainders
pub mod Twins
