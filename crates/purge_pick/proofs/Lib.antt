pub mod FindLemmas
pub mod PickLemmas
pub mod FollowLemmas
pub mod AsManyLemmas
