-- These definitions are this project's own, except where a comment names a public source.
pub mod Sessions
pub mod Cases
pub mod Examples
