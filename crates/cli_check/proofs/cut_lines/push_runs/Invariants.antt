use Rattle.std.proofs.Common.{◌≡◌, ◌++◌, drop}
use Rattle.std.specs.Prelude.{string_bytes}
use Rattle.std.specs.List.{flat_map}
use Rattle.cli_check.specs.CutsTexts.{run_text}
use Rattle.cli_check.proofs.cut_lines.push_runs.Given as goal

-- the lines so far, and those of the rest, are all
abbrev pub invariant-loop-run : goal.invariant-loop-run
invariant-loop-run l =
    string_bytes l.text ++ flat_map (run_text l.steps l.numbers) (drop l.run-index l.runs)
    ≡ string_bytes l.fn.text ++ flat_map (run_text l.steps l.numbers) l.runs
