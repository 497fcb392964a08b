use Rattle.std.proofs.Common.{◌+◌}
use Rattle.pico_board.specs.Content.{flash_base}
use Rattle.pico_board.specs.declared.boot.BootKind.TheVariants.{Update}
use Rattle.law_boot_cuts.proofs.ChosenLemmas.{valid-chosen}
use Rattle.law_boot_cuts.proofs.laws.running.own_writes_of_a_valid_image.Goals as goal

pub returns-clause-pick : goal.returns-clause-pick
returns-clause-pick k = λ c cpu choice u steps place step d right is are at no_accident.
    k.boots_own_writes.ensures.pick c cpu (Update (flash_base + choice.image.window.start)) choice u steps place step d
    right (valid-chosen c cpu choice u right is) is.unit are at no_accident

pub returns-clause-decision : goal.returns-clause-decision
returns-clause-decision k = λ c cpu choice u steps place step d e right is are at no_accident table done keeps former.
    k.boots_own_writes.ensures.decision c cpu (Update (flash_base + choice.image.window.start)) choice u steps place
    step d e right (valid-chosen c cpu choice u right is) is.unit are at no_accident table done keeps former

pub returns-clause-with_a_table : goal.returns-clause-with_a_table
returns-clause-with_a_table k = λ c cpu choice u found steps place step d e right is table are at no_accident keeps former.
    k.boots_own_writes.ensures.with_a_table c cpu (Update (flash_base + choice.image.window.start)) choice u found steps
    place step d e right (valid-chosen c cpu choice u right is) is.unit table are at no_accident keeps former
