pub mod Lines
pub mod LongLines
pub mod Kept
pub mod Left
pub mod Feeds
