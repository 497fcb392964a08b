-- These definitions are this project's own, except where a comment names a public source.
pub mod Values
pub mod Arguments
pub mod Rows
pub mod Usages
pub mod Examples
