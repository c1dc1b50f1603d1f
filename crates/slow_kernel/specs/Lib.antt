pub mod Slow
pub mod Tables
pub mod ObjectTables
pub mod DeadlineSteps
pub mod TaskTables
pub mod VictimTables
pub mod ScanTables
