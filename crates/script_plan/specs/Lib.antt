pub mod Commands
pub mod Plans
pub mod Loads
pub mod Orders
