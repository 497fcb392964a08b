pub mod FirmnessLemmas
