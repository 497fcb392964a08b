-- These definitions are this project's own, except where a comment names a public source.
pub mod ReplayWorks
pub mod ReplayRules
pub mod ReplayExamples
pub mod TextWorks
pub mod Copies
pub mod TextRules
