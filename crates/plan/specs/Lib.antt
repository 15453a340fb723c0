pub mod Faults
pub mod Links
pub mod Sound
pub mod Starts
pub mod Sums
