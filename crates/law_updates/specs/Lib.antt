-- These definitions are this project's own, except where a comment names a public source.
pub mod Boots
pub mod Made
pub mod Played
pub mod Again
pub mod Targets
pub mod Raised
pub mod Often
pub mod Examples
pub mod Rising
pub mod Met
