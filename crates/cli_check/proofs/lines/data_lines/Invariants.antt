use Rattle.std.proofs.Common.{◌≡◌, ◌++◌, drop, length, string_bytes}
use Rattle.cli_check.specs.CheckTexts.{data_lines}
use Rattle.cli_check.proofs.lines.data_lines.Given as goal

-- the lines so far, and then those of the pairs to come
abbrev pub invariant-loop-window : goal.invariant-loop-window
invariant-loop-window l =
    string_bytes l.text
    ++ data_lines (drop (length l.yielded) l.windows) (drop (length l.yielded) l.torn)
    ≡ data_lines l.windows l.torn
