-- These definitions are this project's own, except where a comment names a public source.
pub mod Hosts
pub mod Hosting
pub mod Staged
pub mod SessionLaws
pub mod Triples
pub mod OwnLaws
pub mod Made
pub mod Kept
pub mod Told
