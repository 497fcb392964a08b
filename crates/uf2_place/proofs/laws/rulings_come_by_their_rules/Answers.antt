use Rattle.uf2_place.proofs.RulingLaws.{no-target, outside-is, not_permitted-is, begins-is, continues-is}
use Rattle.uf2_place.proofs.laws.rulings_come_by_their_rules.Goals as goal

pub returns-clause-no_target : goal.returns-clause-no_target
returns-clause-no_target c = no-target

pub returns-clause-outside : goal.returns-clause-outside
returns-clause-outside c = outside-is

pub returns-clause-not_permitted : goal.returns-clause-not_permitted
returns-clause-not_permitted c = not_permitted-is

pub returns-clause-begins : goal.returns-clause-begins
returns-clause-begins c = begins-is

pub returns-clause-continues : goal.returns-clause-continues
returns-clause-continues c = continues-is
