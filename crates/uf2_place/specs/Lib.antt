-- These definitions are this project's own, except where a comment names a public source.
pub mod Accepting
pub mod Blocks
pub mod Downloads
pub mod Examples
pub mod Faults
pub mod Files
pub mod Marks
pub mod OtherFamilies
pub mod Placement
pub mod Progress
pub mod Rulings
