-- These definitions are this project's own.
pub mod Listed
pub mod Tokens
pub mod Images
pub mod Faults
pub mod Examples
