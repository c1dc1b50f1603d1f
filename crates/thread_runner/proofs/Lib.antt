pub mod Runs
pub mod Joining
pub mod Fits
