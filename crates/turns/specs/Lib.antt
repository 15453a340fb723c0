pub mod Taken
pub mod Called
