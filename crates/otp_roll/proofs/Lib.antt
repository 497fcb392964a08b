pub mod BitLemmas
pub mod CountedLemmas
pub mod DigitLemmas
pub mod OnTheWayLemmas
pub mod RaisedLemmas
pub mod RisingLemmas
pub mod WrittenRowLemmas
