-- The text of the cuts of a script.
use Rattle.std.specs.Prelude.{ℕ, ◌*◌, ◌/◌, ◌%◌, ◌==◌, if◌then◌else◌, List, [], ◌++◌, length, slice_get, Option, Some, None, codes, decimal}
use Rattle.std.specs.List.{flat_map}
use Rattle.text_words.specs.Writing.{hex_row, hex_word}
use Rattle.pico_board.specs.declared.Step.{Step}
use Rattle.pico_board.specs.declared.step.Step.TheVariants.{Erase, Program, Raise}
use Rattle.boot_rules.specs.declared.decision.Decision.{Decision}
use Rattle.text_lines.specs.Texts.{decision_line}
use Rattle.cut_class.specs.declared.class.Class.{Class}
use Rattle.cut_class.specs.declared.class.Class.TheVariants.{Former, Finished, Whole, Tail, Mixed, Bootsel}
use Rattle.boot_cuts.specs.declared.runs.Run.{Run}

-- a step: an erase or a program with its flash offset, or a raise with its row
abbrev pub step_text : Step → List ℕ
step_text (Erase s) = codes "erase " ++ hex_word (4096 * s)
step_text (Program p d) = codes "program " ++ hex_word (256 * p)
step_text (Raise r b) = codes "raise " ++ hex_row r

-- the step of a trace at a place
abbrev pub step_at_text : Option Step → List ℕ
step_at_text None = []
step_at_text (Some step) = step_text step

-- cut 2k falls before step k, and cut 2k + 1 within it
abbrev pub part_text : ℕ → List ℕ
part_text cut = if cut % 2 == 0 then codes " before" else codes " within"

-- the number of an event at a place of a trace
abbrev pub number_at_text : Option ℕ → List ℕ
number_at_text None = []
number_at_text (Some n) = decimal n

-- a cut: the number of its step, the number of the event that does it, the step, and where in the
-- step it falls
abbrev pub cut_text : List Step → List ℕ → ℕ → List ℕ
cut_text steps numbers cut =
    decimal (cut / 2) ++ (codes " event=" ++ (number_at_text (slice_get numbers (cut / 2))
    ++ (codes " " ++ (step_at_text (slice_get steps (cut / 2)) ++ part_text cut))))

abbrev pub class_text : Class → List ℕ
class_text Former = codes "former"
class_text Finished = codes "finished"
class_text Whole = codes "whole"
class_text Tail = codes "tail"
class_text Mixed = codes "mixed"
class_text Bootsel = codes "bootsel"

-- a class with a decision, to the end of a line
abbrev pub answer_text : Class → Decision → List ℕ
answer_text class decision = class_text class ++ (codes " " ++ decision_line decision)

-- the line of a run
abbrev pub run_text : List Step → List ℕ → Run → List ℕ
run_text steps numbers run =
    cut_text steps numbers run.first ++ (codes " to " ++ (cut_text steps numbers run.last
    ++ (codes " " ++ answer_text run.answer.class run.answer.decision)))

-- the end line, of so many steps
abbrev pub end_text : ℕ → Class → Decision → List ℕ
end_text n class decision =
    codes "end " ++ (decimal n ++ (codes " " ++ answer_text class decision))

abbrev pub cuts_text : List Step → List ℕ → List Run → Class → Decision → List ℕ
cuts_text steps numbers runs class decision =
    flat_map (run_text steps numbers) runs ++ end_text (length steps) class decision
