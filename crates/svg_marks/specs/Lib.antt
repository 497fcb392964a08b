-- These definitions are this project's own, except where a comment names a public source.
pub mod Breaks
pub mod Marks
pub mod Reading
pub mod Texts
pub mod Examples
