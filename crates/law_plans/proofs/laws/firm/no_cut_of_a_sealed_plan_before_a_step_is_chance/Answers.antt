use Rattle.image_check.specs.Changes.{moved_to}
use Rattle.boot_session.specs.Sessions.{session}
use Rattle.law_plans.proofs.PlanFirmLemmas.{KnownSession, swept-firm}
use Rattle.law_plans.proofs.laws.firm.no_cut_of_a_sealed_plan_before_a_step_is_chance.Goals as goal

pub returns : goal.returns
returns k =
    let says : KnownSession = record {
      barred = k.the_session_of_a_plan.ensures.barred;
      bytes = k.the_session_of_a_plan.ensures.bytes;
      rows = k.the_session_of_a_plan.ensures.rows;
    } in
    λ binary spec sealed own c pattern w es line found halves bytes long lone stored right small table meets room is
    none slot digests has before.
    k.no_cut_before_a_step_is_chance.ensures c spec.cpu pattern (session c spec.cpu es) line w
    (moved_to w sealed.started) found right small table none slot
    (swept-firm says binary spec sealed own c w es found halves bytes long lone stored right table meets room is slot)
    digests has before
