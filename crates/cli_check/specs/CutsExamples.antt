-- Worked answers of lines, which the examples of this crate take.
use Rattle.std.specs.Prelude.{ℕ, ◌∷◌, [], List, false}
use Rattle.pico_board.specs.declared.Step.{Step}
use Rattle.pico_board.specs.declared.Step.TheVariants.{Erase, Program, Raise}
use Rattle.slot_choice.specs.Examples.{window_at}
use Rattle.boot_rules.specs.declared.decision.Decision.{Decision}
use Rattle.boot_rules.specs.declared.decision.Decision.TheVariants.{Start, Bootsel}
use Rattle.boot_rules.specs.declared.decision.Fall.TheVariants.{FlashOff, NoImage}
use Rattle.worked_flashes.specs.Choices.{starts_alone}
use Rattle.worked_flashes.specs.Images.{image_of_version}
use Rattle.boot_cuts.specs.declared.answers.Answer.{Answer}
use Rattle.cut_class.specs.declared.class.Class.{Class}
use Rattle.boot_cuts.specs.declared.runs.Run.{Run}

-- an erase, a program and a raise
abbrev pub three_steps : List Step
three_steps = Erase 2 ∷ Program 33 (0x55 ∷ []) ∷ Raise 0x0c1 7 ∷ []

-- the start of version 1.2 in a window of two sectors, and two falls
abbrev pub starts : Decision
starts = Start (starts_alone false (image_of_version (window_at 0x2000 0x2000) 1 2 false))

abbrev pub falls : Decision
falls = Bootsel NoImage

abbrev pub falls_otherwise : Decision
falls_otherwise = Bootsel FlashOff

abbrev pub told : Class → Decision → Answer
told class decision = record { class = class; decision = decision }

-- the run of these cuts with this answer
abbrev pub run_to : ℕ → ℕ → Answer → Run
run_to first last answer = record { first = first; last = last; answer = answer }
