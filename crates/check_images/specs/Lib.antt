-- These definitions are this project's own, except where a comment names a public source.
pub mod Lines
pub mod Images
pub mod Effects
pub mod Members
pub mod Touching
pub mod Written
pub mod Told
pub mod Boots
pub mod Comparing
pub mod Raising
pub mod Starting
pub mod Lost
pub mod Losing
pub mod Examples
