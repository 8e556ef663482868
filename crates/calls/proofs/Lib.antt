pub mod Cancels
pub mod Enters
pub mod Changes
pub mod Opens
pub mod Replies
pub mod Screens
pub mod Ticks
