pub mod Picks
pub mod Follows
pub mod Laws
