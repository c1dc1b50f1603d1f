pub mod TasksFrom
pub mod Rests
