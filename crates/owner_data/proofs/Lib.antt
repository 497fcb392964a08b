pub mod DataLemmas
