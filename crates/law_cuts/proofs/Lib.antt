pub mod SameImageLemmas
pub mod SessionTraceLemmas
pub mod CaseLemmas
pub mod AccidentLemmas
pub mod EndLemmas
mod ExampleLemmas
