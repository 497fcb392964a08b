use Rattle.std.proofs.Common.{◌+◌, ◌∙◌}
use Rattle.std.proofs.lemmas.Result.{err_from_is_err_and}
use Rattle.pico_board.proofs.StepLemmas.{DoesAll-none, DoesAll-step, DoesAll-cut}
use Rattle.picoboot_cmd.proofs.StepListLemmas.{erases-first, erases-end}
use Rattle.picoboot_cmd.proofs.working.erase_sectors.Goals as goal

pub returns-in_err-erase : goal.returns-in_err-erase
returns-in_err-erase g c =
    let lost = err_from_is_err_and c.from_residual.result c.from_residual.ensures.1 in
    let more = erases-first c.loop-sector.sector (c.args.first + c.args.count) c.loop-sector-test.true in
    rw (lost.1) (c.loop-sector.invariant.rest _ _ (rw more (DoesAll-cut _ c.in_err-erase.ensures)))

pub loop-sector-preserved : goal.loop-sector-preserved
loop-sector-preserved g c =
    let more = erases-first c.loop-sector.sector (c.args.first + c.args.count) c.loop-sector-test.true in
    record {
      power = c.in_ok-erase.ensures.power;
      size = c.in_ok-erase.ensures.size ∙ c.loop-sector.invariant.size;
      rest = λ ok u after. c.loop-sector.invariant.rest ok u (rw more (DoesAll-step c.in_ok-erase.ensures after));
    }

pub returns : goal.returns
returns g c =
    let end = erases-end c.loop-sector.sector (c.args.first + c.args.count) c.loop-sector-test.false in
    c.loop-sector.invariant.rest _ _ (rw end (DoesAll-none _ c.loop-sector.invariant.power))
