use Rattle.law_caveats.proofs.WindowLaws.{typed-doubt}
use Rattle.law_caveats.proofs.laws.no_doubt_of_the_item_order.Goals as goal

pub returns : goal.returns
returns c = typed-doubt
