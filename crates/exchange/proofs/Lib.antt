pub mod Turns
pub mod Search
pub mod Promises
pub mod Shown
