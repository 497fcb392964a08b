-- These definitions are this project's own, except where a comment names a public source.
pub mod ChartWorks
pub mod ChartRules
pub mod SweepWorks
pub mod FirmWorks
pub mod SweepRules
