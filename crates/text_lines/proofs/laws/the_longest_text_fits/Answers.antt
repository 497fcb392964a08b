use Rattle.text_lines.proofs.LengthLemmas.{length_outcome}
use Rattle.text_lines.proofs.laws.the_longest_text_fits.Goals as goal

pub returns : goal.returns
returns c = length_outcome
