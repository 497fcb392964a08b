mod AskedLemmas
mod RunLemmas
mod RuleLemmas
mod VerdictLemmas
