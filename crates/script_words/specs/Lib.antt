-- These definitions are this project's own, except where a comment names a public source.
pub mod Splitting
pub mod Forms
pub mod Rows
pub mod Values
pub mod Finding
pub mod Made
pub mod Naming
pub mod Spelling
pub mod Saying
pub mod Examples
