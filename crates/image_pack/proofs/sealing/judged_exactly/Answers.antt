use Rattle.image_pack.proofs.FaultLemmas.{told}
use Rattle.image_pack.proofs.sealing.judged_exactly.Goals as goal

pub returns-clause-refused : goal.returns-clause-refused
returns-clause-refused c =
    told c.args.binary.now c.args.spec.now c.judged_text.result c.judged_text.ensures.sealed
    c.judged_text.ensures.fault
