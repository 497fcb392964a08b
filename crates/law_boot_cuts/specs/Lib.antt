-- These definitions are this project's own, except where a comment names a public source.
pub mod Crashes
pub mod Examples
pub mod Running
pub mod RunningExamples
