use Rattle.std.proofs.Common.{◌≡◌, take, string_bytes}
use Rattle.std.specs.List.{flat_map}
use Rattle.cli_words.specs.Rows.{row_of}
use Rattle.cli_words.specs.Usages.{row_line}
use Rattle.cli_words.proofs.usage.rows_text.Given as goal

abbrev pub invariant-loop-verb : goal.invariant-loop-verb
invariant-loop-verb l =
    string_bytes l.text ≡ flat_map (λ verb. row_line (row_of verb)) (take l.verb-index l.verbs)
