use Rattle.std.proofs.Common.{[], refl}
use Rattle.boot_session.specs.Sessions.{session}
use Rattle.pico_board.specs.declared.boot.Cpu.TheVariants.{Arm}
use Rattle.law_updates.specs.Examples.{page_written, small_update, two_sectors}
use Rattle.law_updates.proofs.ExampleLemmas.{first-session, first-unerased, left-by, small-once, written-table}
use Rattle.law_updates.proofs.examples.often.a_loss_behind_a_page.Goals as goal

pub returns-clause-named : goal.returns-clause-named
returns-clause-named k = small-once

pub returns-clause-erased : goal.returns-clause-erased
returns-clause-erased k =
    (k.the_first_unerased_step_is_told.ensures.none (session two_sectors Arm small_update)).0 first-unerased

pub returns-clause-left : goal.returns-clause-left
returns-clause-left k =
    ([], two_sectors, [], (refl, refl), left-by two_sectors [] page_written first-session tt refl written-table, refl)
