use Rattle.std.proofs.Common.{◌≡◌, take, string_bytes}
use Rattle.std.specs.List.{flat_map}
use Rattle.cli_caveats.specs.Texts.{caveat_line}
use Rattle.cli_caveats.proofs.texts.caveat_lines.Given as goal

abbrev pub invariant-loop-caveat : goal.invariant-loop-caveat
invariant-loop-caveat l = string_bytes l.text ≡ flat_map caveat_line (take l.caveat-index l.caveats)
