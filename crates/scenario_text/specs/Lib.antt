pub mod Grammar
pub mod Gives
pub mod Text
pub mod Left
pub mod Fronts
