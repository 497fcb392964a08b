use Rattle.std.proofs.Common.{◌≡◌, take, string_bytes}
use Rattle.std.specs.List.{flat_map}
use Rattle.cli_words.specs.Arguments.{word_note}
use Rattle.cli_words.proofs.usage.notes_text.Given as goal

abbrev pub invariant-loop-word : goal.invariant-loop-word
invariant-loop-word l = string_bytes l.text ≡ flat_map word_note (take l.word-index l.words)
