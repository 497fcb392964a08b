use Rattle.std.proofs.Common.{refl, false}
use Rattle.std.proofs.lemmas.Option.{none-some}
use Rattle.slot_choice.specs.declared.unit.Member.TheVariants.{B}
use Rattle.slot_choice.specs.Examples.{the_pair}
use Rattle.worked_flashes.specs.Images.{in_b}
use Rattle.law_premises.specs.Examples.{second_window}
use Rattle.law_premises.proofs.ImageLemmas.{pair-same}
use Rattle.law_premises.proofs.examples.boots.images_of_a_pair.Goals as goal

pub returns-clause-but_second : goal.returns-clause-but_second
returns-clause-but_second c = record { same = pair-same }

pub returns-clause-not_same : goal.returns-clause-not_same
returns-clause-not_same c = λ all. none-some (in_b 1 10 false) (all.same 0 the_pair B second_window false refl refl)
