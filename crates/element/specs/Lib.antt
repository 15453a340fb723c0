pub mod Kinds
pub mod Algebra
pub mod Join
pub mod Models
pub mod Numbers
pub mod Unions
pub mod Bitwise
pub mod Forces
