-- The words of the laws of one entry more.
pub mod Kinds
pub mod Unchanged
pub mod Frames
pub mod Literal
pub mod Order
pub mod Queues
pub mod Legal
pub mod Next
pub mod Present
pub mod Ends
pub mod Group
