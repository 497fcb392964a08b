-- By computing.
use Rattle.std.proofs.Common.{refl}
use Rattle.std.specs.Fmt.{padded_integral, digits, char_count}
use Rattle.block_codec.specs.Words.{word_of, word_bytes}
use Rattle.boot_tape.proofs.examples.notes.commands_that_write.Goals as goal

pub returns-clause-whole : goal.returns-clause-whole
unfolding padded_integral digits char_count word_of word_bytes
returns-clause-whole c = refl

pub returns-clause-cut : goal.returns-clause-cut
unfolding padded_integral digits char_count word_of word_bytes
returns-clause-cut c = refl

pub returns-clause-first : goal.returns-clause-first
unfolding padded_integral digits char_count word_of word_bytes
returns-clause-first c = refl

pub returns-clause-later : goal.returns-clause-later
unfolding padded_integral digits char_count word_of word_bytes
returns-clause-later c = refl
