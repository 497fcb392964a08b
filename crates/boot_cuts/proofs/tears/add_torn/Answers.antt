use Rattle.std.proofs.Common.{◌∙◌, ◌++◌, List, append-nil, ap, sym}
use Rattle.pico_board.specs.declared.Step.{Step}
use Rattle.boot_tape.specs.Moving.{move_from, moves_from}
use Rattle.boot_cuts.proofs.TearLemmas.{torn-here}
use Rattle.boot_cuts.proofs.tears.add_torn.Goals as goal

pub returns-in_ok-push-in-Torn : goal.returns-in_ok-push-in-Torn
returns-in_ok-push-in-Torn c =
    c.in_ok-push-in-Torn.ensures.items
    ∙ ap (λ (xs : List Step). c.args.torn.now.items ++ xs)
    (sym (torn-here (move_from c.args.moved.now) c.in-Torn.step _ _ (moves_from c.args.later.now) _
    (ap move_from c.in-Torn.is) (sym c.is_mended.ensures ∙ c.if-not-is_mended.true)))

pub returns-else-not-is_mended : goal.returns-else-not-is_mended
returns-else-not-is_mended c =
    sym (append-nil c.args.torn.now.items)
    ∙ ap (λ (xs : List Step). c.args.torn.now.items ++ xs)
    (sym (torn-here (move_from c.args.moved.now) c.in-Torn.step _ _ (moves_from c.args.later.now) _
    (ap move_from c.in-Torn.is) (sym c.is_mended.ensures ∙ c.if-not-is_mended.false)))
