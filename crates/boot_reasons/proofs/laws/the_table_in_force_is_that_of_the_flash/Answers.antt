use Rattle.std.proofs.Common.{ap, ◌∙◌}
use Rattle.boot_reasons.specs.Reasons.{reasons_in, table_of_reasons}
use Rattle.boot_reasons.proofs.ReasonLemmas.{reasons-only}
use Rattle.boot_reasons.proofs.TableReasonLemmas.{taken-in}
use Rattle.boot_reasons.proofs.laws.the_table_in_force_is_that_of_the_flash.Goals as goal

pub returns : goal.returns
unfolding reasons_in
returns a = λ c cpu kind r is. ap table_of_reasons (reasons-only c cpu kind r is) ∙ taken-in c
