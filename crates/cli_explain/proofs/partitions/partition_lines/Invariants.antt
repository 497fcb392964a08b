use Rattle.std.proofs.Common.{◌≡◌, ◌++◌, drop, string_bytes}
use Rattle.cli_explain.specs.Partitions.{partition_lines}
use Rattle.cli_explain.proofs.partitions.partition_lines.Given as goal

abbrev pub invariant-loop-number : goal.invariant-loop-number
invariant-loop-number l = string_bytes l.text ++ partition_lines l.number (drop l.number l.parts)
    ≡ partition_lines 0 l.parts
