pub mod Full
pub mod NoLoss
pub mod One
pub mod Same
pub mod Turns
