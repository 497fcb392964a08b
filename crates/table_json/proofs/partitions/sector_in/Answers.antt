use Rattle.std.proofs.Common.{◌∙◌, arith}
use Rattle.table_json.proofs.partitions.sector_in.Goals as goal

pub returns-in_err-number_below-clause-value : goal.returns-in_err-number_below-clause-value
returns-in_err-number_below-clause-value c = c.from_residual.ensures ∙ c.in_err-number_below.ensures.value

pub returns-in_err-number_below-clause-small : goal.returns-in_err-number_below-clause-small
returns-in_err-number_below-clause-small c = rw c.from_residual.ensures tt

pub overflow_cast-result : goal.overflow_cast-result
overflow_cast-result c = omega (arith, c.in_ok-number_below.ensures.small)

pub returns-clause-value : goal.returns-clause-value
returns-clause-value c = c.in_ok-number_below.ensures.value

pub returns-clause-small : goal.returns-clause-small
returns-clause-small c = c.in_ok-number_below.ensures.small
