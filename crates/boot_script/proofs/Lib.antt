pub mod FollowingLemmas
pub mod JudgingLemmas
pub mod NumberLemmas
pub mod ReadBackLemmas
pub mod SpelledLemmas
pub mod WhyNotLemmas
pub mod WalkLemmas
