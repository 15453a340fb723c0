pub mod Faults
pub mod Frames
pub mod Turns
pub mod Books
pub mod Runs
pub mod Promise
pub mod Steps
