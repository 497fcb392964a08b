-- The words from here on are those of rows exactly where all of them are.
use Rattle.std.proofs.Common.{◌≡◌, drop}
use Rattle.block_codec.specs.Words.{words_of}
use Rattle.picoboot_cmd.specs.Rows.{are_row_words}
use Rattle.picoboot_cmd.proofs.judging.are_row_words.Given as goal

abbrev pub invariant-loop-k : goal.invariant-loop-k
invariant-loop-k l = are_row_words (drop l.k (words_of l.payload)) ≡ are_row_words (words_of l.payload)
