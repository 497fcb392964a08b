use Rattle.std.proofs.Common.{◌≡◌, drop, length, map}
use Rattle.script_words.specs.Finding.{values_in}
use Rattle.script_words.specs.Splitting.{word_bytes}
use Rattle.script_words.specs.Values.{value_from}
use Rattle.script_words.proofs.FindLemmas.{with_values}
use Rattle.script_words.proofs.finding.read_values.Given as goal

-- the values so far, and those of the words that are left, are those of all
abbrev pub invariant-loop-word : goal.invariant-loop-word
invariant-loop-word l = record {
  count : length l.values.items ≡ l.word-index;
  so_far : values_in l.row 0 (map word_bytes l.words)
      ≡ with_values (map value_from l.values.items)
      (values_in l.row l.word-index (map word_bytes (drop l.word-index l.words)));
}
