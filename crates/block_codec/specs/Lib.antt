-- These definitions are this project's own, except where a comment names a public source.
pub mod Words
pub mod Items
pub mod Blocks
pub mod Reading
pub mod Writing
pub mod FirstFault
pub mod Kinds
pub mod Erased
pub mod HighByte
pub mod Pages
