pub mod Forest
pub mod Meaning
