pub mod Summary
pub mod Facts
pub mod Table
pub mod Json
pub mod Reasons
pub mod Reports
