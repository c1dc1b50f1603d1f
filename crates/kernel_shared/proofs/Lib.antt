pub mod Passing
pub mod Own
