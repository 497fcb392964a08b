use Rattle.pico_board.proofs.ContentLemmas.{byte_at}
use Rattle.boot_session.proofs.PlanServedLemmas.{Known}
use Rattle.law_staged.proofs.StagePlanLemmas.{KnownStage, stage-of}
use Rattle.law_staged.proofs.laws.stages.a_stage_is_staged.Goals as goal

pub returns : goal.returns
returns c =
    let known : Known = record {
      read = c.the_commands_of_a_plan.ensures.read;
      is_erase = c.the_commands_of_a_plan.ensures.erase;
      is_write = c.the_commands_of_a_plan.ensures.write;
      is_reboot = c.the_commands_of_a_plan.ensures.reboot;
      erased = c.a_permitted_erase_is_done.ensures;
      wrote = c.a_permitted_write_is_done.ensures;
      rebooted = c.a_reboot_asks_for_its_boot.ensures;
      refused = c.a_refused_command_does_nothing.ensures;
      erase_status = c.the_checks_of_each_command.ensures.erase;
      write_status = c.the_checks_of_each_command.ensures.write;
      by_byte = c.a_range_is_allowed_byte_by_byte.ensures;
    } in
    let says : KnownStage = λ w image page is_bought placed room.
    c.the_events_of_a_stage.ensures w image page is_bought placed room in
    λ d cpu image out o is es right small of may reads staged.
    stage-of known says d cpu image out o is es right (byte_at image small) of may reads staged
