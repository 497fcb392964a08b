use Rattle.std.proofs.Common.{◌≡◌, take, string_bytes}
use Rattle.cli_words.specs.Usages.{words_text}
use Rattle.cli_words.proofs.usage.words_text.Given as goal

abbrev pub invariant-loop-word : goal.invariant-loop-word
invariant-loop-word l = string_bytes l.text ≡ words_text (take l.word-index l.words)
