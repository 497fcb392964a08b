use Rattle.std.proofs.Common.{◌<◌, refl, arith}
use Rattle.std.proofs.lemmas.List.Elements.{All-replicate}
use Rattle.text_lines.proofs.examples.the_greatest_numbers_are_told.Goals as goal

pub returns-clause-replied : goal.returns-clause-replied
returns-clause-replied c = record {
  id = omega arith;
  token = omega arith;
  answer = record {
    count = omega arith;
    long = refl;
    bytes = All-replicate (λ b. b < 256) 32 255 (omega arith);
  };
}
