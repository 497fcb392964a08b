-- These definitions are this project's own, except where a comment names a public source.
pub mod Addressing
pub mod Answers
pub mod Entry
pub mod Entering
pub mod Rules
pub mod Image
pub mod Examined
pub mod Valid
pub mod WhyNot
pub mod SameImage
pub mod NotBelow
pub mod Changes
pub mod Digests
pub mod Examples
