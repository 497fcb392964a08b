-- These definitions are this project's own, except where a comment names a public source.
pub mod Tables
pub mod TableRules
pub mod Choosing
pub mod Chosen
pub mod Examples
pub mod Changes
pub mod Picking
pub mod Stages
pub mod Targets
pub mod Data
pub mod Starts
pub mod AccidentalImages
