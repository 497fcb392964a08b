-- These definitions are this project's own, except where a comment names a public source.
pub mod Members
pub mod Names
pub mod Forms
pub mod Steps
pub mod Requires
pub mod Reports
pub mod Meeting
pub mod Rules
pub mod Texts
pub mod Examples
