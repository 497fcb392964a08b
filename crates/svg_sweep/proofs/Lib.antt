pub mod RunLemmas
pub mod RunLawLemmas
pub mod CountLemmas
pub mod ChartTextLemmas
pub mod PlaceLemmas
