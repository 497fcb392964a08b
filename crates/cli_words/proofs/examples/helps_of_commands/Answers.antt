use Rattle.std.proofs.Common.{refl}
use Rattle.std.specs.Fmt.{padded, take_chars, char_count}
use Rattle.cli_words.specs.Usages.{help_text}
use Rattle.cli_words.proofs.examples.helps_of_commands.Goals as goal

pub returns-clause-one : goal.returns-clause-one
unfolding padded take_chars char_count help_text lib.Utf8.encode
returns-clause-one c = refl

pub returns-clause-two : goal.returns-clause-two
unfolding padded take_chars char_count help_text lib.Utf8.encode
returns-clause-two c = refl
