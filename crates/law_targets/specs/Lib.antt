-- These definitions are this project's own, except where a comment names a public source.
pub mod Pairs
pub mod Loads
pub mod Taking
pub mod TargetRules
pub mod HomeRules
pub mod Examples
