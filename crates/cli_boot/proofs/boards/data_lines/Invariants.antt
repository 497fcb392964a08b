use Rattle.std.proofs.Common.{◌≡◌, take, string_bytes}
use Rattle.std.specs.List.{flat_map}
use Rattle.cli_boot.specs.Works.{data_line}
use Rattle.cli_boot.proofs.boards.data_lines.Given as goal

abbrev pub invariant-loop-window : goal.invariant-loop-window
invariant-loop-window l = string_bytes l.text ≡ flat_map data_line (take l.window-index l.windows)
