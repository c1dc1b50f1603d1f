pub mod FactsFrom
pub mod LineLaws
pub mod JsonLaws
pub mod Emptied
pub mod Explained
pub mod Fronts
pub mod Statuses
pub mod Written
