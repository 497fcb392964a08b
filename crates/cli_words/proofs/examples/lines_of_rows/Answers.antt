use Rattle.std.proofs.Common.{refl}
use Rattle.std.specs.Fmt.{padded, take_chars, char_count}
use Rattle.cli_words.proofs.examples.lines_of_rows.Goals as goal

pub returns-clause-full : goal.returns-clause-full
unfolding padded take_chars char_count lib.Utf8.encode
returns-clause-full c = refl

pub returns-clause-short : goal.returns-clause-short
unfolding padded take_chars char_count lib.Utf8.encode
returns-clause-short c = refl

pub returns-clause-long : goal.returns-clause-long
unfolding padded take_chars char_count lib.Utf8.encode
returns-clause-long c = refl
