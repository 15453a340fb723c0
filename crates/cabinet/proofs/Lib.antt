pub mod OnePage
pub mod Pages
pub mod ProgramLemmas
pub mod Runs
pub mod Settles
pub mod Told
