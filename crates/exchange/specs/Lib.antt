pub mod Calls
pub mod Loading
pub mod Going
