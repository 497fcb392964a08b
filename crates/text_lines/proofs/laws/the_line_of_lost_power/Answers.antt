use Rattle.text_lines.proofs.LostLemmas.{lost-of, lost-says}
use Rattle.text_lines.proofs.laws.the_line_of_lost_power.Goals as goal

pub returns : goal.returns
returns c = λ outcome. (lost-of outcome, lost-says outcome)
