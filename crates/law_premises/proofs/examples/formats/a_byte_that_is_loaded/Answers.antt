use Rattle.std.proofs.Common.{Some, refl}
use Rattle.law_premises.proofs.examples.formats.a_byte_that_is_loaded.Goals as goal

pub returns : goal.returns
returns c = record {
  load = record { storage = Some 16; runtime = 0x20000004; size = 4 };
  last = refl;
  start = 16;
  storage = refl;
  place = refl;
}
