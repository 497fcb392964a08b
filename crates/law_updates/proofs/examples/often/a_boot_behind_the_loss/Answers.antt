use Rattle.std.proofs.Common.{[], refl, sym, arith}
use Rattle.law_updates.specs.Examples.{boot_raises, row_raised, two_sectors, written_again}
use Rattle.law_updates.proofs.ExampleLemmas.{again-table, boot-left, boot-may, boot-raised, boot-rises, boot-steps, first-session, left-by, raised-session, raised-table}
use Rattle.law_updates.proofs.examples.often.a_boot_behind_the_loss.Goals as goal

pub returns-clause-boot : goal.returns-clause-boot
returns-clause-boot k = sym boot-steps

pub returns-clause-raised : goal.returns-clause-raised
returns-clause-raised k = boot-raised

pub returns-clause-rows : goal.returns-clause-rows
returns-clause-rows k = boot-may

pub returns-clause-boots : goal.returns-clause-boots
returns-clause-boots k = boot-left

pub returns-clause-named : goal.returns-clause-named
returns-clause-named k = λ may. may.untouched.unnamed.1.1.1.0 (refl, omega arith, omega arith)

pub returns-clause-flags : goal.returns-clause-flags
returns-clause-flags k = λ may. let low = may.listed in omega (arith, low)

pub returns-clause-once : goal.returns-clause-once
returns-clause-once k = (
  [],
  two_sectors,
  boot_raises,
  (refl, refl),
  left-by two_sectors boot_raises row_raised first-session boot-rises refl raised-table,
  refl,
)

pub returns-clause-twice : goal.returns-clause-twice
returns-clause-twice k = (
  boot_raises,
  row_raised,
  [],
  (
    [],
    two_sectors,
    boot_raises,
    (refl, refl),
    left-by two_sectors boot_raises row_raised first-session boot-rises refl raised-table,
    refl,
  ),
  left-by row_raised [] written_again raised-session tt refl again-table,
  refl,
)
