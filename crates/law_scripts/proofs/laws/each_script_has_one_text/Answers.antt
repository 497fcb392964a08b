use Rattle.std.proofs.Common.{[], ap, sym, ◌∙◌}
use Rattle.script_text.specs.Listing.{listed}
use Rattle.script_text.specs.Reading.{text_events}
use Rattle.law_scripts.proofs.BackLemmas.{read-back, same-ok}
use Rattle.law_scripts.proofs.laws.each_script_has_one_text.Goals as goal

pub returns-clause-again : goal.returns-clause-again
returns-clause-again c = λ image es fs inside bytes within read.
    ap listed (same-ok fs es (sym read ∙ read-back image es inside bytes within))

pub returns-clause-one : goal.returns-clause-one
returns-clause-one c = λ es fs inside bytes within others fs_bytes fs_within same.
    same-ok es fs (sym (read-back [] es inside bytes within) ∙ ap (text_events []) same
    ∙ read-back [] fs others fs_bytes fs_within)
