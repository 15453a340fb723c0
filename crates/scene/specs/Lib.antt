pub mod Cells
pub mod Sums
pub mod Layout
pub mod Read
pub mod Faults
pub mod Rules
pub mod Views
pub mod Written
