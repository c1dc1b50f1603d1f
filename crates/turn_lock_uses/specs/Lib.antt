pub mod Jars
pub mod Totals
