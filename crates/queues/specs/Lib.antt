pub mod Changes
pub mod Entries
pub mod Lists
pub mod Walking
pub mod Walks
pub mod Sided
