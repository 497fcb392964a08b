-- These definitions are this project's own, except where a comment names a public source.
pub mod Comments
pub mod Reading
pub mod Listing
pub mod Meaning
pub mod Examples
