use Rattle.std.proofs.Common.{◌≡◌, ◌+◌, ◌-◌, ◌++◌, string_bytes}
use Rattle.cli_explain.specs.Texts.{unreached_lines}
use Rattle.cli_explain.proofs.texts.unreached_lines.Given as goal

abbrev pub invariant-loop-i : goal.invariant-loop-i
invariant-loop-i l = string_bytes l.text ++ unreached_lines (l.first + l.i) (l.count - l.i)
    ≡ unreached_lines l.first l.count
