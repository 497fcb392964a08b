pub mod FollowLemmas
pub mod ChainLemmas
pub mod SameLoopLemmas
pub mod FindLemmas
pub mod WalkLemmas
pub mod CycleLemmas
pub mod LoopBlockLemmas
pub mod PlaceLemmas
