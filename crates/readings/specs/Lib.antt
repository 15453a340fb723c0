pub mod Bytes
pub mod Media
pub mod Runs
pub mod Pages
pub mod Answers
pub mod Readings
