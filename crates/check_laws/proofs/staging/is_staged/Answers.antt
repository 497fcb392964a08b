use Rattle.std.proofs.Common.{◌∙◌, sym}
use Rattle.pico_board.specs.MemBoard.{state_of}
use Rattle.check_laws.proofs.StagingLemmas.{end-staged, other-end, unlooped, unstaged}
use Rattle.check_laws.proofs.staging.is_staged.Goals as goal

pub returns-then-is_err : goal.returns-then-is_err
returns-then-is_err c = λ before leads gated.
    unstaged before (state_of c.args.board.now).content c.args.steps.now c.args.window c.args.cpu leads gated
    c.check.result (λ s. (c.check.ensures.valid s).1) (sym c.is_err.ensures.value ∙ c.if-is_err.true)

pub returns-then-ends_on_page : goal.returns-then-ends_on_page
returns-then-ends_on_page c = λ before leads gated.
    end-staged before (state_of c.args.board.now).content c.args.steps.now c.args.window c.args.cpu leads gated
    c.check.result (λ s. (c.check.ensures.valid s).0) (sym c.is_err.ensures.value ∙ c.if-is_err.false)
    c.in-Ok.found c.in-Ok.ensures.loop_ c.first_page.result c.first_page.ensures
    (c.ends_on_page.ensures.0 c.if-ends_on_page.true) c.has_no_other_block.result c.has_no_other_block.ensures

pub returns-else-ends_on_page : goal.returns-else-ends_on_page
returns-else-ends_on_page c = λ before leads gated.
    other-end before (state_of c.args.board.now).content c.args.steps.now c.args.window c.args.cpu leads gated
    c.in-Ok.found c.in-Ok.ensures.loop_ c.first_page.result c.first_page.ensures c.ends_on_page.result
    c.if-ends_on_page.false c.ends_on_page.ensures.1

pub returns-in-Err : goal.returns-in-Err
returns-in-Err c = λ before leads gated.
    unlooped before (state_of c.args.board.now).content c.args.steps.now c.args.window c.args.cpu leads gated
    c.walk.result c.in-Err.field-0 c.in-Err.is c.walk.ensures.each_loop
