pub mod Slots
pub mod Ring
pub mod Dues
pub mod Gaps
