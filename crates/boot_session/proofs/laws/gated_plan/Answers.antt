use Rattle.boot_session.proofs.PlanLaws.{plan-gated}
use Rattle.boot_session.proofs.laws.gated_plan.Goals as goal

pub returns : goal.returns
returns c = record {
  gated =
      plan-gated
      (record {
        read = c.the_commands_of_a_plan.ensures.read;
        is_erase = c.the_commands_of_a_plan.ensures.erase;
        is_write = c.the_commands_of_a_plan.ensures.write;
        is_reboot = c.the_commands_of_a_plan.ensures.reboot;
        erased = c.a_permitted_erase_is_done.ensures;
        wrote = c.a_permitted_write_is_done.ensures;
        rebooted = c.a_reboot_asks_for_its_boot.ensures;
        refused = c.a_refused_command_does_nothing.ensures;
        erase_status = c.the_checks_of_each_command.ensures.erase;
        write_status = c.the_checks_of_each_command.ensures.write;
        by_byte = c.a_range_is_allowed_byte_by_byte.ensures;
      })
      (record {
        short = λ w image few room starts whole low.
            c.the_events_of_a_plan.ensures.short w image (record { start = starts; len = whole; low = low }) room few;
        long = λ w image more room starts whole low.
            c.the_events_of_a_plan.ensures.long w image (record { start = starts; len = whole; low = low }) room more;
      });
}
