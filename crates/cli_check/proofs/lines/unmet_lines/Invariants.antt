use Rattle.std.proofs.Common.{◌≡◌, take, string_bytes}
use Rattle.std.specs.List.{flat_map}
use Rattle.check_lines.specs.Counting.{unmet_line}
use Rattle.cli_check.proofs.lines.unmet_lines.Given as goal

-- the text so far has the lines of the members so far
abbrev pub invariant-loop-member : goal.invariant-loop-member
invariant-loop-member l = string_bytes l.text ≡ flat_map unmet_line (take l.member-index l.unmet)
