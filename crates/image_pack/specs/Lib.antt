-- These definitions are this project's own, except where a comment names a public source.
pub mod Streams
pub mod Flashes
pub mod Filling
pub mod Sealing
pub mod Within
pub mod Faults
pub mod Starting
pub mod Examples
pub mod Unsealable
pub mod Starts
pub mod ReadBack
