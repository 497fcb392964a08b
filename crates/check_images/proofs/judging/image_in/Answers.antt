use Rattle.std.proofs.Common.{subst, sym}
use Rattle.pico_board.specs.MemBoard.{state_of}
use Rattle.image_check.specs.Valid.{Valid}
use Rattle.image_check.proofs.LawLemmas.{valid-window}
use Rattle.check_images.specs.Images.{IsImageOf}
use Rattle.check_images.proofs.judging.image_in.Goals as goal

pub facts_of-requires-clause-valid : goal.facts_of-requires-clause-valid
facts_of-requires-clause-valid c =
    let content = (state_of c.args.board.now).content in
    let valid = (c.check.ensures.valid c.in-Ok.image).0 c.in-Ok.is in
    let here = valid-window content c.args.window c.args.cpu c.args.trial_ok c.in-Ok.image valid in
    (c.args.trial_ok, subst (λ w. Valid content w c.args.cpu c.args.trial_ok c.in-Ok.image) (sym here) valid)

pub returns-in-Ok-clause-judged : goal.returns-in-Ok-clause-judged
returns-in-Ok-clause-judged c =
    let content = (state_of c.args.board.now).content in
    let valid = (c.check.ensures.valid c.in-Ok.image).0 c.in-Ok.is in
    let here = valid-window content c.args.window c.args.cpu c.args.trial_ok c.in-Ok.image valid in
    subst (λ w. IsImageOf content w c.args.cpu c.args.trial_ok c.facts_of.result) here
    (c.facts_of.ensures c.args.trial_ok
    (subst (λ w. Valid content w c.args.cpu c.args.trial_ok c.in-Ok.image) (sym here) valid))
