pub mod Putting
pub mod Taking
pub mod Turns
pub mod Calling
