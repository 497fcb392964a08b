use Rattle.std.proofs.Common.{◌≡◌, map, take}
use Rattle.cli_course.specs.Views.{limited_input_from}
use Rattle.cli_inputs.specs.Inputs.{readings, form_input_from}
use Rattle.cli_inputs.proofs.inputs.readings.Given as goal

-- what is read of the inputs so far
abbrev pub invariant-loop-input : goal.invariant-loop-input
invariant-loop-input l =
    map limited_input_from l.words.items ≡ readings (map form_input_from (take l.input-index l.inputs))
