pub mod Draws
pub mod Head
pub mod Made
