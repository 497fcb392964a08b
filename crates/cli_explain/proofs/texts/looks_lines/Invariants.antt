use Rattle.std.proofs.Common.{◌≡◌, ◌++◌, drop, string_bytes}
use Rattle.cli_explain.specs.Texts.{looks_lines}
use Rattle.cli_explain.proofs.texts.looks_lines.Given as goal

abbrev pub invariant-loop-number : goal.invariant-loop-number
invariant-loop-number l = string_bytes l.text ++ looks_lines l.number (drop l.number l.looks) ≡ looks_lines 0 l.looks
