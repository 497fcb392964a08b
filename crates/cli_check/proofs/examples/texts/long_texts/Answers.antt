-- By computing.
use Rattle.std.proofs.Common.{refl}
use Rattle.std.specs.Fmt.{padded_integral, digits, char_count}
use Rattle.check_data.specs.Texts.{data_line}
use Rattle.check_records.specs.Texts.{again_line, lines_by, refused_line, unfinished_line}
use Rattle.check_lines.specs.Texts.{effect_line, facts_text, fallback_line, image_text, loss_text, lost_line, starts_line, written_line}
use Rattle.check_lines.specs.Counting.{boot_line, buy_line, caveat_seen, cuts_line, held_line, other_counts, rows_line, session_line, session_text, skipped_line, unmet_line, well_counts}
use Rattle.cli_check.specs.CheckTexts.{boot_lines, check_text, count_lines, event_lines, findings_text, image_lines, law_lines, record_lines}
use Rattle.cli_check.proofs.examples.texts.long_texts.Goals as goal

pub returns : goal.returns
unfolding padded_integral digits char_count data_line again_line lines_by refused_line unfinished_line effect_line facts_text fallback_line image_text loss_text lost_line starts_line written_line boot_line buy_line caveat_seen cuts_line other_counts well_counts held_line rows_line session_line session_text skipped_line unmet_line boot_lines check_text count_lines event_lines findings_text image_lines law_lines record_lines
returns c = refl
