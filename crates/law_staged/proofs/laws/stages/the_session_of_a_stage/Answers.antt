use Rattle.std.proofs.Common.{ap, sym, ◌∙◌, arith}
use Rattle.pico_board.proofs.ContentLemmas.{byte_at}
use Rattle.pico_board.specs.Steps.{after_all}
use Rattle.boot_session.proofs.PlanServedLemmas.{Known}
use Rattle.law_staged.proofs.StagePlanLemmas.{KnownStage, stage-as-plan, stage-done, stage-writes}
use Rattle.law_staged.proofs.laws.stages.the_session_of_a_stage.Goals as goal

pub returns : goal.returns
returns c =
    let known : Known = record {
      read = c.the_commands_of_a_plan.ensures.read;
      is_erase = c.the_commands_of_a_plan.ensures.erase;
      is_write = c.the_commands_of_a_plan.ensures.write;
      is_reboot = c.the_commands_of_a_plan.ensures.reboot;
      erased = c.a_permitted_erase_is_done.ensures;
      wrote = c.a_permitted_write_is_done.ensures;
      rebooted = c.a_reboot_asks_for_its_boot.ensures;
      refused = c.a_refused_command_does_nothing.ensures;
      erase_status = c.the_checks_of_each_command.ensures.erase;
      write_status = c.the_checks_of_each_command.ensures.write;
      by_byte = c.a_range_is_allowed_byte_by_byte.ensures;
    } in
    let says : KnownStage = λ w image page is_bought placed room.
    c.the_events_of_a_stage.ensures w image page is_bought placed room in
    record {
      steps = λ d cpu w image page is_bought es right of room low holds is may.
          stage-done known says d cpu w image page is_bought es right of room low holds is may;
      same = λ d cpu w image page is_bought es plan right of room low holds small is planned may.
          stage-as-plan known says d cpu w image page is_bought es right of room low holds is may (byte_at image small)
          ∙ sym (ap (after_all d) (c.the_session_of_a_plan.ensures.steps d cpu w image plan right of
          (omega (arith, holds)) room planned may));
      bytes = λ d cpu w image page is_bought es right of room low holds small is may.
          stage-writes known says d cpu w image page is_bought es right of room low holds is may (byte_at image small);
    }
