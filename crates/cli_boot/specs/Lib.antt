-- These definitions are this project's own, except where a comment names a public source.
pub mod Works
pub mod Rules
pub mod Examples
