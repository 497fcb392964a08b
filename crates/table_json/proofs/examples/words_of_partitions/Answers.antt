use Rattle.std.proofs.Common.{refl, arith}
use Rattle.serde_json.proofs.OnLiterals.{serde_json_on_literals}
use Rattle.table_json.proofs.examples.words_of_partitions.Goals as goal

pub returns-clause-another : goal.returns-clause-another
returns-clause-another c = λ i d says. let same = says.again in omega (arith, same)

pub returns-clause-silent : goal.returns-clause-silent
unfolding serde_json_on_literals
returns-clause-silent c = record {
  first = refl;
  last = refl;
  families = refl;
  permissions = refl;
  again = refl;
  id = refl;
  name = refl;
  link = refl;
  arm = refl;
  riscv = refl;
  stays = refl;
}
