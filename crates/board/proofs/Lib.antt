pub mod Boards
pub mod Entitles
pub mod Placed
pub mod Scans
pub mod Tables
