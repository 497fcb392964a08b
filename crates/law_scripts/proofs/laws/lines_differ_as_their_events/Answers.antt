use Rattle.std.proofs.Common.{ap}
use Rattle.script_words.specs.Naming.{line_of}
use Rattle.script_words.specs.Spelling.{line_text}
use Rattle.boot_script.specs.Events.{EventView}
use Rattle.law_scripts.proofs.BackLemmas.{one-line}
use Rattle.law_scripts.proofs.TokenLemmas.{lines-differ}
use Rattle.law_scripts.proofs.laws.lines_differ_as_their_events.Goals as goal

pub returns-clause-same : goal.returns-clause-same
returns-clause-same c = λ next e f first second.
    (one-line next e f first second, ap (λ (g : EventView). line_text (line_of next g)))

pub returns-clause-other : goal.returns-clause-other
returns-clause-other c = lines-differ
