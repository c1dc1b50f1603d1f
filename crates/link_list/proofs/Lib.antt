pub mod Ranges
pub mod Members
pub mod Runs
pub mod Walks
pub mod LinkedSteps
pub mod Places
