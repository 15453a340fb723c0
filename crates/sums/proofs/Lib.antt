pub mod Contributions
pub mod OwnSums
