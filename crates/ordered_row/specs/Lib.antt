pub mod Found
pub mod Row
