use Rattle.std.proofs.Common.{◌+◌, refl, arith}
use Rattle.image_pack.proofs.TableExampleLemmas.{loaded-at, no-load, stored-at}
use Rattle.image_pack.proofs.examples.sealing.tables_stored_in_a_binary.Goals as goal

pub returns-clause-all : goal.returns-clause-all
returns-clause-all c = λ i offset lt from. (let is = stored-at 0x20 i offset from in omega (arith, is, lt))

pub returns-clause-one_less : goal.returns-clause-one_less
returns-clause-one_less c = λ stored.
    (let low = stored 7 0x27 (omega arith) (loaded-at 0x20 7 refl) in omega (arith, low))

pub returns-clause-not_loaded : goal.returns-clause-not_loaded
returns-clause-not_loaded c = λ i offset lt from. absurd (no-load (0x10000000 + i) offset from)
