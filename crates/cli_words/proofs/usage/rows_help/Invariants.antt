use Rattle.std.proofs.Common.{◌≡◌, take, string_bytes}
use Rattle.std.specs.List.{flat_map}
use Rattle.cli_words.specs.Usages.{row_help}
use Rattle.cli_words.proofs.usage.rows_help.Given as goal

abbrev pub invariant-loop-verb : goal.invariant-loop-verb
invariant-loop-verb l = string_bytes l.text ≡ flat_map (row_help l.name) (take l.verb-index l.verbs)
