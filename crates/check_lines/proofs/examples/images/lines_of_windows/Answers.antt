use Rattle.std.proofs.Common.{refl}
use Rattle.std.specs.Fmt.{padded_integral, digits, char_count}
use Rattle.check_lines.specs.Texts.{effect_line, facts_text, fallback_line, image_text, loss_text, lost_line, starts_line, written_line}
use Rattle.check_lines.proofs.examples.images.lines_of_windows.Goals as goal

pub returns-clause-script : goal.returns-clause-script
unfolding effect_line facts_text fallback_line image_text loss_text lost_line starts_line written_line padded_integral digits char_count
returns-clause-script c = refl

pub returns-clause-boot : goal.returns-clause-boot
unfolding effect_line facts_text fallback_line image_text loss_text lost_line starts_line written_line padded_integral digits char_count
returns-clause-boot c = refl

pub returns-clause-buy : goal.returns-clause-buy
unfolding effect_line facts_text fallback_line image_text loss_text lost_line starts_line written_line padded_integral digits char_count
returns-clause-buy c = refl
