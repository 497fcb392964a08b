use Rattle.std.proofs.Common.{◌∙◌, ap, false, subst, sym}
use Rattle.pico_board.specs.MemBoard.{state_of}
use Rattle.boot_rules.specs.Choosing.{images_in}
use Rattle.boot_cuts.specs.Classing.{is_image}
use Rattle.boot_cuts.specs.Standings.{IsStanding}
use Rattle.boot_cuts.proofs.StandingLemmas.{same-window}
use Rattle.boot_cuts.proofs.images.stands_in.Goals as goal

pub standing_in-standing-requires-clause-knows : goal.standing_in-standing-requires-clause-knows
standing_in-standing-requires-clause-knows c = c.none-digests.ensures.knows (state_of c.args.board.now).content

pub returns-then-is_same-clause-exact : goal.returns-then-is_same-clause-exact
returns-then-is_same-clause-exact c =
    let content = (state_of c.args.board.now).content in
    c.is_image.ensures
    ∙ (ap (is_image c.args.image.now)
    (subst (λ s. IsStanding content c.args.cpu s) (sym c.standing-item.is)
    (c.requires.known c.loop-standing.standing-index c.standing-item.result c.loop-standing-test.true))
    ∙ ap (λ w. is_image c.args.image.now (images_in content c.args.cpu w false))
    (same-window _ _ (sym c.is_same.ensures ∙ c.if-is_same.true)))

pub returns-clause-exact : goal.returns-clause-exact
returns-clause-exact c =
    let content = (state_of c.args.board.now).content in
    c.is_image-2.ensures
    ∙ (ap (is_image c.args.image.now) c.standing_in-standing.ensures.standing
    ∙ ap (λ w. is_image c.args.image.now (images_in content c.args.cpu w false)) c.standing_in-standing.ensures.window)
