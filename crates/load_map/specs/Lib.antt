-- These definitions are this project's own, except where a comment names a public source.
pub mod Addresses
pub mod Loads
pub mod Reading
pub mod Faults
pub mod Stored
pub mod Given
pub mod Covered
pub mod Agree
pub mod Examples
