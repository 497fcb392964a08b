-- These definitions are this project's own, except where a comment names a public source.
pub mod Flags
pub mod Suits
pub mod Rows
pub mod Kinds
pub mod Held
pub mod Faults
pub mod Definition
pub mod Guarantees
pub mod Trial
pub mod Examples
