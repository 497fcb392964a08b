-- These definitions are this project's own, except where a comment names a public source.
pub mod Content
pub mod Steps
pub mod Cuts
pub mod Board
pub mod Sessions
pub mod Views
pub mod ViewedWindows
pub mod Rows
pub mod Windows
pub mod Supply
pub mod MemBoard
pub mod MemFiles
pub mod Files
pub mod Processors
pub mod Puts
pub mod Histories
pub mod Examples
