-- These definitions are this project's own, except where a comment names a public source.
pub mod Comparing
pub mod EachCut
pub mod Firms
pub mod Gating
pub mod Moving
pub mod Refusals
pub mod Results
pub mod StepResults
pub mod Sweeps
pub mod Swept
pub mod Verdicts
