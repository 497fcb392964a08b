-- These definitions are this project's own.
pub mod Firmness
