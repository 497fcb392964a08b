use Rattle.std.proofs.Common.{Some, arith}
use Rattle.std.proofs.lemmas.Grind.{common_steps}
use Rattle.picoboot_cmd.proofs.SectorLemmas.{allowed-first}
use Rattle.picoboot_cmd.proofs.judging.all_have.Goals as goal

pub returns-then-not-allowed : goal.returns-then-not-allowed
returns-then-not-allowed c =
    let first = allowed-first (Some c.args.table.now) c.args.right c.loop-sector.sector c.args.end
    c.loop-sector-test.true in
    let all = c.loop-sector.invariant in
    let one = c.allowed.ensures in
    grind (arith, common_steps, first, all, one)

pub loop-sector-preserved : goal.loop-sector-preserved
loop-sector-preserved c =
    let first = allowed-first (Some c.args.table.now) c.args.right c.loop-sector.sector c.args.end
    c.loop-sector-test.true in
    let all = c.loop-sector.invariant in
    let one = c.allowed.ensures in
    grind (arith, common_steps, first, all, one)
