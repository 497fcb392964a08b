use Rattle.std.proofs.Common.{◌≡◌, take, string_bytes}
use Rattle.std.specs.List.{flat_map}
use Rattle.check_lines.specs.Texts.{written_line}
use Rattle.cli_check.proofs.lines.written_lines.Given as goal

-- the text so far has the lines of the windows so far
abbrev pub invariant-loop-window : goal.invariant-loop-window
invariant-loop-window l = string_bytes l.text ≡ flat_map written_line (take l.window-index l.written)
