pub mod OptionLemmas
pub mod HexLemmas
pub mod DecimalLemmas
pub mod NumberBackLemmas
pub mod BytesLemmas
mod NumberLemmas
