pub mod Breaks
pub mod Counting
pub mod Faultless
pub mod Orders
pub mod Plans
pub mod Searches
