use Rattle.std.proofs.Common.{refl}
use Rattle.std.specs.Fmt.{padded_integral, digits, char_count}
use Rattle.check_lines.specs.Texts.{effect_line, facts_text, fallback_line, image_text, loss_text, lost_line, starts_line, written_line}
use Rattle.check_lines.proofs.examples.images.lines_of_losses.Goals as goal

pub returns-clause-gone : goal.returns-clause-gone
unfolding effect_line facts_text fallback_line image_text loss_text lost_line starts_line written_line padded_integral digits char_count
returns-clause-gone c = refl

pub returns-clause-fault : goal.returns-clause-fault
unfolding effect_line facts_text fallback_line image_text loss_text lost_line starts_line written_line padded_integral digits char_count
returns-clause-fault c = refl

pub returns-clause-below : goal.returns-clause-below
unfolding effect_line facts_text fallback_line image_text loss_text lost_line starts_line written_line padded_integral digits char_count
returns-clause-below c = refl
