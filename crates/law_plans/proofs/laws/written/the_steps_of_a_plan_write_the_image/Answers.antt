use Rattle.std.proofs.Common.{◌∙◌, arith}
use Rattle.std.proofs.lemmas.List.{get_or_past}
use Rattle.pico_board.proofs.ContentLemmas.{byte_at}
use Rattle.law_plans.proofs.PlanByteLemmas.{plan-writes}
use Rattle.law_plans.proofs.PlannedLemmas.{length-pages, length-planned, length-written, planned-erased, planned-image, planned-old, planned-same}
use Rattle.law_plans.proofs.laws.written.the_steps_of_a_plan_write_the_image.Goals as goal

pub returns-clause-bytes : goal.returns-clause-bytes
returns-clause-bytes k = λ c w s image starts whole inside some room bytes.
    plan-writes c w s image starts whole inside some room (byte_at image bytes)

pub returns-clause-front : goal.returns-clause-front
returns-clause-front k = planned-same

pub returns-clause-page : goal.returns-clause-page
returns-clause-page k = λ image old i from to.
    let long = length-pages image in
    planned-image image old i (omega (arith, to, long)) ∙ get_or_past image i 0 from

pub returns-clause-sector : goal.returns-clause-sector
returns-clause-sector k = λ image old i from to.
    let long = length-pages image in
    let whole = length-written image in
    planned-erased image old i (omega (arith, from, long)) (omega (arith, to, whole))

pub returns-clause-behind : goal.returns-clause-behind
returns-clause-behind k = λ image old i from.
    let whole = length-written image in planned-old image old i (omega (arith, from, whole))

pub returns-clause-long : goal.returns-clause-long
returns-clause-long k = λ image old room.
    let whole = length-written image in length-planned image old (omega (arith, room, whole))
