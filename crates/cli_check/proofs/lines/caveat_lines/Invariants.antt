use Rattle.std.proofs.Common.{◌≡◌, take, string_bytes}
use Rattle.std.specs.List.{flat_map}
use Rattle.check_lines.specs.Counting.{caveat_seen}
use Rattle.cli_check.proofs.lines.caveat_lines.Given as goal

-- the text so far has the lines of the caveats so far
abbrev pub invariant-loop-seen : goal.invariant-loop-seen
invariant-loop-seen l = string_bytes l.text ≡ flat_map caveat_seen (take l.seen-index l.caveats)
