use Rattle.law_updates.proofs.MadeLemmas.{boot-kept}
use Rattle.law_updates.proofs.laws.own.boots_that_are_kept.Goals as goal

pub returns : goal.returns
returns c = boot-kept
