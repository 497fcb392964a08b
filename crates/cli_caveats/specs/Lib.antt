-- These definitions are this project's own.
pub mod Texts
pub mod Works
pub mod Rules
