pub mod Tallies
pub mod Pages
