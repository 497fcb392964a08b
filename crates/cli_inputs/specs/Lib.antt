-- These definitions are this project's own, except where a comment names a public source.
pub mod JsonTexts
pub mod Jsons
pub mod Asks
pub mod Forms
pub mod Inputs
pub mod Rules
