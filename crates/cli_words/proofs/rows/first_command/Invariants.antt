use Rattle.std.proofs.Common.{◌≡◌, drop, map, string_bytes}
use Rattle.cli_words.specs.Rows.{first_command}
use Rattle.cli_words.proofs.rows.first_command.Given as goal

-- the first of the rest is that of all
abbrev pub invariant-loop-verb : goal.invariant-loop-verb
invariant-loop-verb l =
    first_command (drop l.verb-index l.verbs) l.name (map string_bytes l.words)
    ≡ first_command l.verbs l.name (map string_bytes l.words)
