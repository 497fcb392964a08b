use Rattle.std.proofs.Common.{refl}
use Rattle.std.specs.Fmt.{padded_integral, digits, char_count}
use Rattle.check_lines.specs.Texts.{effect_line, facts_text, fallback_line, image_text, loss_text, lost_line, starts_line, written_line}
use Rattle.check_lines.proofs.examples.images.lines_of_starts.Goals as goal

pub returns-clause-starts : goal.returns-clause-starts
unfolding effect_line facts_text fallback_line image_text loss_text lost_line starts_line written_line padded_integral digits char_count
returns-clause-starts c = refl

pub returns-clause-falls : goal.returns-clause-falls
unfolding effect_line facts_text fallback_line image_text loss_text lost_line starts_line written_line padded_integral digits char_count
returns-clause-falls c = refl

pub returns-clause-fallback : goal.returns-clause-fallback
unfolding effect_line facts_text fallback_line image_text loss_text lost_line starts_line written_line padded_integral digits char_count
returns-clause-fallback c = refl

pub returns-clause-none : goal.returns-clause-none
unfolding effect_line facts_text fallback_line image_text loss_text lost_line starts_line written_line padded_integral digits char_count
returns-clause-none c = refl
