use Rattle.image_pack.proofs.TextLaws.{relinked-here, relinked-long, relinked-none, relinked-others}
use Rattle.image_pack.proofs.WithinLemmas.{IsWithin-parts}
use Rattle.image_pack.proofs.laws.the_binary_stays_but_for_one_link.Goals as goal

pub returns-clause-within : goal.returns-clause-within
returns-clause-within c = IsWithin-parts

pub returns-clause-long : goal.returns-clause-long
returns-clause-long c = relinked-long

pub returns-clause-others : goal.returns-clause-others
returns-clause-others c = λ bytes p i within apart. relinked-others bytes p within i apart

pub returns-clause-link : goal.returns-clause-link
returns-clause-link c = relinked-here

pub returns-clause-none : goal.returns-clause-none
returns-clause-none c = relinked-none
