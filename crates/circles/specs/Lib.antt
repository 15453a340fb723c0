pub mod Chains
pub mod Circles
