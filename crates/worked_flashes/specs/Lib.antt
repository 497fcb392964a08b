pub mod Tables
pub mod Images
pub mod Choices
pub mod Flashes
pub mod Writes
