-- These definitions are this project's own, except where a comment names a public source.
pub mod Windows
pub mod Others
pub mod Ends
pub mod Loose
pub mod Early
pub mod Texts
pub mod Examples
