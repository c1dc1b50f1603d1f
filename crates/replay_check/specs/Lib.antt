pub mod Same
pub mod Verdicts
pub mod Replays
pub mod Lines
pub mod Pieces
