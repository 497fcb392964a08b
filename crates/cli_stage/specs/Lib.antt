-- These definitions are this project's own, except where a comment names a public source.
pub mod Images
pub mod StageWorks
pub mod StageRules
