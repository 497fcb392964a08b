use Rattle.std.proofs.Common.{arith}
use Rattle.law_plans.proofs.PlanFirmLemmas.{KnownSession, low-after, valid-after}
use Rattle.law_plans.proofs.laws.plans.a_planned_image_is_valid.Goals as goal

pub returns : goal.returns
returns c =
    let says : KnownSession = record {
      barred = c.the_session_of_a_plan.ensures.barred;
      bytes = c.the_session_of_a_plan.ensures.bytes;
      rows = c.the_session_of_a_plan.ensures.rows;
    } in record {
      valid = λ d cpu by w image es trial s v right of some room small is may stored none.
          valid-after says d by w image es right of some room is small may cpu trial s v stored none;
      low = λ d by w image es right of more room small is may.
          low-after says d by w image es right of (omega (arith, more)) room is small may more;
    }
