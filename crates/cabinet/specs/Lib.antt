pub mod Listed
pub mod Pages
pub mod Prepared
pub mod Programs
pub mod Told
