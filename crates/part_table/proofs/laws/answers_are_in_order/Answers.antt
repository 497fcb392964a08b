-- By the lemmas on answers.
use Rattle.part_table.proofs.AnswerLemmas.{read_to, read_back}
use Rattle.part_table.proofs.laws.answers_are_in_order.Goals as goal

pub returns : goal.returns
returns c b n m r = (read_to b n m r, read_back b n m r)
