use Rattle.std.proofs.Common.{refl}
use Rattle.std.specs.Fmt.{padded_integral, digits, char_count}
use Rattle.check_lines.specs.Texts.{effect_line, facts_text, fallback_line, image_text, loss_text, lost_line, starts_line, written_line}
use Rattle.check_lines.proofs.examples.images.lines_of_effects.Goals as goal

pub returns-clause-none : goal.returns-clause-none
unfolding effect_line facts_text fallback_line image_text loss_text lost_line starts_line written_line padded_integral digits char_count
returns-clause-none c = refl

pub returns-clause-new : goal.returns-clause-new
unfolding effect_line facts_text fallback_line image_text loss_text lost_line starts_line written_line padded_integral digits char_count
returns-clause-new c = refl

pub returns-clause-up : goal.returns-clause-up
unfolding effect_line facts_text fallback_line image_text loss_text lost_line starts_line written_line padded_integral digits char_count
returns-clause-up c = refl

pub returns-clause-same : goal.returns-clause-same
unfolding effect_line facts_text fallback_line image_text loss_text lost_line starts_line written_line padded_integral digits char_count
returns-clause-same c = refl

pub returns-clause-down : goal.returns-clause-down
unfolding effect_line facts_text fallback_line image_text loss_text lost_line starts_line written_line padded_integral digits char_count
returns-clause-down c = refl
