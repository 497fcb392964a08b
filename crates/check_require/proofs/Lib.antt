mod ValueLemmas
pub mod RuleLemmas
pub mod TextLemmas
pub mod VerdictLemmas
