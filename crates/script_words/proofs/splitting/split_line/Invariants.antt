use Rattle.std.proofs.Common.{◌≡◌, ◌++◌, ◌-◌, ◌≤◌, length, map, take}
use Rattle.script_words.specs.declared.splitting.TheConstants.{MOST_WORDS}
use Rattle.script_words.specs.Splitting.{blank_words, first_words, word_bytes}
use Rattle.script_words.proofs.splitting.split_line.Given as goal

-- the words so far, and as many of the others as are looked at, are those of the line
abbrev pub invariant-words : goal.invariant-words
invariant-words l = record {
  few : length l.words.items ≤ MOST_WORDS;
  so_far : first_words l.line
      ≡ map word_bytes l.words.items ++ take (MOST_WORDS - length l.words.items) (blank_words l.text);
}

abbrev pub decreases-words : goal.decreases-words
decreases-words l = MOST_WORDS - length l.words.items
