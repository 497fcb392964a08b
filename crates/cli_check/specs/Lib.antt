-- These definitions are this project's own.
pub mod Findings
pub mod CheckTexts
pub mod Reporting
pub mod Finding
pub mod CheckWorks
pub mod FindingRules
pub mod CheckRules
pub mod Names
pub mod Examples
pub mod CutsTexts
pub mod CutsExamples
pub mod CutsWorks
pub mod CutsRules
