use Rattle.law_caveats.proofs.SlotLaws.{table-order-doubt}
use Rattle.law_caveats.proofs.laws.no_doubt_of_the_table_order.Goals as goal

pub returns : goal.returns
returns c = table-order-doubt
