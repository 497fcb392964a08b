-- These definitions are this project's own, except where a comment names a public source.
pub mod Windows
pub mod WindowRules
pub mod Maps
pub mod MapRules
pub mod Examples
