use Rattle.boot_script.proofs.WalkLemmas.{events-read, few-events, few-records}
use Rattle.boot_script.proofs.laws.scripts_are_read.Goals as goal

pub returns-clause-read : goal.returns-clause-read
returns-clause-read c = λ bytes is. (is.short, events-read bytes is, few-records bytes is)

pub returns-clause-only : goal.returns-clause-only
returns-clause-only c = λ bytes es short read few. few-events bytes es short read few
