-- These definitions are this project's own, except where a comment names a public source.
pub mod Asks
pub mod Infos
pub mod Statuses
pub mod Examples
