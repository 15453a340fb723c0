pub mod Lines
pub mod Held
pub mod Placed
pub mod Readings
