-- These definitions are this project's own, except where a comment names a public source.
pub mod Staged
pub mod StagedPlans
pub mod Examples
