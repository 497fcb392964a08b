use Rattle.std.proofs.Common.{◌≡◌, ◌++◌, drop, map}
use Rattle.cli_inputs.specs.Inputs.{form_input_from}
use Rattle.cli_words.specs.Values.{values_from}
use Rattle.boot_run.specs.Inputs.{row_inputs}
use Rattle.boot_run.proofs.inputs.row_inputs.Given as goal

-- the inputs so far, and those of the rest, are all
abbrev pub invariant-loop-word : goal.invariant-loop-word
invariant-loop-word l =
    map form_input_from l.inputs.items ++ row_inputs (drop l.word-index l.words) (values_from l.values)
    ≡ row_inputs l.words (values_from l.values)
