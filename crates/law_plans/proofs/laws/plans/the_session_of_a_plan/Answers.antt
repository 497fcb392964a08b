use Rattle.std.proofs.Common.{◌+◌, ◌/◌, ap}
use Rattle.part_table.specs.declared.table.Right.TheVariants.{BootWrite}
use Rattle.part_table.specs.Rights.{allowed_by}
use Rattle.pico_board.proofs.ContentLemmas.{byte_at}
use Rattle.boot_machine.specs.Serving.{table_of_found}
use Rattle.boot_session.proofs.PlanLaws.{KnownEvents}
use Rattle.boot_session.proofs.PlanServedLemmas.{Known}
use Rattle.law_plans.proofs.PlanSessionLemmas.{session-barred, session-done, session-rows, session-writes}
use Rattle.law_plans.proofs.laws.plans.the_session_of_a_plan.Goals as goal

pub returns : goal.returns
returns c =
    let known : Known = record {
      read = c.the_commands_of_a_plan.ensures.read;
      is_erase = c.the_commands_of_a_plan.ensures.erase;
      is_write = c.the_commands_of_a_plan.ensures.write;
      is_reboot = c.the_commands_of_a_plan.ensures.reboot;
      erased = c.a_permitted_erase_is_done.ensures;
      wrote = c.a_permitted_write_is_done.ensures;
      rebooted = c.a_reboot_asks_for_its_boot.ensures;
      refused = c.a_refused_command_does_nothing.ensures;
      erase_status = c.the_checks_of_each_command.ensures.erase;
      write_status = c.the_checks_of_each_command.ensures.write;
      by_byte = c.a_range_is_allowed_byte_by_byte.ensures;
    } in
    let says : KnownEvents = record {
      short = λ w image few room starts whole low.
          c.the_events_of_a_plan.ensures.short w image (record { start = starts; len = whole; low = low }) room few;
      long = λ w image more room starts whole low.
          c.the_events_of_a_plan.ensures.long w image (record { start = starts; len = whole; low = low }) room more;
    } in record {
      steps = λ d cpu w image es right of some room is may.
          session-done known says d cpu w image es right of some room is may;
      barred = λ d cpu w image es right of some room is never.
          session-barred known says d cpu w image es right of some room is never;
      no_table = λ d at n none i lt. ap (λ o. allowed_by (table_of_found o) ((at + i) / 4096) BootWrite) none;
      bytes = λ d cpu w image es right of some room small is may.
          session-writes known says d cpu w image es right of some room is (byte_at image small)
          (session-done known says d cpu w image es right of some room is may);
      rows = λ d cpu w image es right of some room is.
          session-rows known says d cpu w image es right of some room is;
    }
