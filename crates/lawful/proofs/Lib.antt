pub mod Lawfully
