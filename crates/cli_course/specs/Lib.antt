-- These definitions are this project's own, except where a comment names a public source.
pub mod Statuses
pub mod Outcomes
pub mod Courses
pub mod Views
pub mod Ends
