-- These definitions are this project's own, except where a comment names a public source.
pub mod Units
pub mod LoadUnits
pub mod Versions
pub mod Updates
pub mod Examples
