use Rattle.std.proofs.Common.{◌≡◌, ◌++◌, drop}
use Rattle.std.specs.Prelude.{string_bytes}
use Rattle.std.specs.List.{flat_map}
use Rattle.boot_sweep.specs.StepResults.{told_lines}
use Rattle.boot_sweep.specs.Sweeps.{line_text}
use Rattle.boot_sweep.proofs.lines.results_text.Given as goal

-- the lines so far and those of the rest are all lines
abbrev pub invariant-loop-number : goal.invariant-loop-number
invariant-loop-number l =
    string_bytes l.text
    ++ flat_map line_text (told_lines l.number (drop l.number l.found.steps.items) (drop l.number l.found.cuts.items))
    ≡ flat_map line_text (told_lines 0 l.found.steps.items l.found.cuts.items)
