-- By the lemmas on written tables.
use Rattle.part_table.proofs.BlockLemmas.{is_block, judged_again, stands, read_again, size_told}
use Rattle.part_table.proofs.laws.tables_are_read_back.Goals as goal

pub returns-clause-block : goal.returns-clause-block
returns-clause-block c = is_block

pub returns-clause-stands : goal.returns-clause-stands
returns-clause-stands c = stands

pub returns-clause-again : goal.returns-clause-again
returns-clause-again c = read_again

pub returns-clause-size : goal.returns-clause-size
returns-clause-size c = size_told

pub returns-clause-judged : goal.returns-clause-judged
returns-clause-judged c = judged_again
