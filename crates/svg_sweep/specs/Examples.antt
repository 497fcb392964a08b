-- Data for worked examples: a session of three steps, whose first erase leaves chance within.
use Rattle.std.specs.Prelude.{[], ◌∷◌}
use Rattle.pico_board.specs.declared.step.Step.TheVariants as steps
use Rattle.svg_marks.specs.declared.class.Class.TheVariants.{Former, Finished, Chance}
use Rattle.svg_sweep.specs.Charts.{Chart}

abbrev pub three_steps : Chart
three_steps = record {
  steps = steps.Erase 32 ∷ steps.Program 528 [] ∷ steps.Program 512 [] ∷ [];
  before = Former ∷ Former ∷ Former ∷ [];
  within = Chance ∷ Former ∷ Chance ∷ [];
  end_ = Finished;
}

abbrev pub no_steps : Chart
no_steps = record { steps = []; before = []; within = []; end_ = Former }
