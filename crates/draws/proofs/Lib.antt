pub mod Boards
pub mod Filling
pub mod Lists
pub mod Reserves
pub mod Settling
