-- These definitions are this project's own, except where a comment names a public source.
pub mod Commands
pub mod Arguments
pub mod Sectors
pub mod Rows
pub mod Pages
pub mod Checks
pub mod ByCommand
pub mod Served
pub mod Replies
pub mod WellFormed
pub mod Examples
