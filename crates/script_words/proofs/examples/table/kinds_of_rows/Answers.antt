use Rattle.std.proofs.Common.{refl}
use Rattle.script_words.proofs.examples.table.kinds_of_rows.Goals as goal

pub returns-clause-commands : goal.returns-clause-commands
returns-clause-commands c = refl

pub returns-clause-hexadecimal : goal.returns-clause-hexadecimal
returns-clause-hexadecimal c = refl
