use Rattle.std.proofs.Common.{◌≡◌, Err, drop, map}
use Rattle.script_words.specs.Finding.{or_in, read_rows}
use Rattle.script_words.specs.Splitting.{word_bytes}
use Rattle.script_words.proofs.finding.read_rows.Given as goal

-- no row so far reads the line, and what the others say is left
abbrev pub invariant-loop-row : goal.invariant-loop-row
invariant-loop-row l =
    read_rows l.rows l.first (map word_bytes l.words)
    ≡ or_in (Err l.number) (read_rows (drop l.row-index l.rows) l.first (map word_bytes l.words))
