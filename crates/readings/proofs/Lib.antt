pub mod Media
pub mod Turning
pub mod Circling
pub mod Told
