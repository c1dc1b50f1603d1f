pub mod Laws
pub mod Literal
pub mod Rows
pub mod Ranges
pub mod Grows
pub mod TurnLemmas
