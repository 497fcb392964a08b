use Rattle.std.proofs.Common.{◌+◌, ◌/◌, ◌*◌, ◌∙◌, ap, arith, take, length, sym}
use Rattle.std.proofs.lemmas.Result.{err_from_is_err_and}
use Rattle.std.proofs.lemmas.List.{take_rest}
use Rattle.pico_board.proofs.StepLemmas.{DoesAll-none, DoesAll-step, DoesAll-cut}
use Rattle.picoboot_cmd.specs.Pages.{padded_page}
use Rattle.picoboot_cmd.proofs.StepListLemmas.{programs-first, programs-end}
use Rattle.picoboot_cmd.proofs.working.program_payload.Goals as goal

pub returns-in_err-program : goal.returns-in_err-program
returns-in_err-program g c =
    let lost = err_from_is_err_and c.from_residual.result c.from_residual.ensures.1 in
    let more = programs-first c.args.bytes.now c.args.first ((length c.args.bytes.now + 255) / 256) c.loop-i.i
    (omega (arith, c.loop-i-test.true, c.div_ceil-i-end.ensures)) in
    let page = c.page_of.ensures ∙ ap (λ bs. padded_page (take 256 bs))
    (take_rest c.args.bytes.now (256 * c.loop-i.i)) in
    rw (lost.1) (c.loop-i.invariant.rest _ _ (rw (more, sym page) (DoesAll-cut _ c.in_err-program.ensures)))

pub loop-i-preserved : goal.loop-i-preserved
loop-i-preserved g c =
    let more = programs-first c.args.bytes.now c.args.first ((length c.args.bytes.now + 255) / 256) c.loop-i.i
    (omega (arith, c.loop-i-test.true, c.div_ceil-i-end.ensures)) in
    let page = c.page_of.ensures ∙ ap (λ bs. padded_page (take 256 bs))
    (take_rest c.args.bytes.now (256 * c.loop-i.i)) in
    record {
      power = c.in_ok-program.ensures.power;
      size = c.in_ok-program.ensures.size ∙ c.loop-i.invariant.size;
      rest = λ ok u after.
          c.loop-i.invariant.rest ok u (rw (more, sym page) (DoesAll-step c.in_ok-program.ensures after));
    }

pub returns : goal.returns
returns g c =
    let end = programs-end c.args.bytes.now c.args.first ((length c.args.bytes.now + 255) / 256) c.loop-i.i
    (omega (arith, c.loop-i-test.false, c.div_ceil-i-end.ensures)) in
    c.loop-i.invariant.rest _ _ (rw end (DoesAll-none _ c.loop-i.invariant.power))
