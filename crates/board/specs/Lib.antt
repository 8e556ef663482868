pub mod Carriers
pub mod EndTimes
pub mod Entitlements
pub mod Memory
pub mod Positions
pub mod Rows
pub mod Seats
pub mod Struck
