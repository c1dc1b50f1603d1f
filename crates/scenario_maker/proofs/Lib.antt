pub mod DrawnOrder
pub mod Turns
