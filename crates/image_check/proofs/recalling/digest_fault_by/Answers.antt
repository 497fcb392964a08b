use Rattle.std.proofs.Common.{sym, subst, ◌∙◌}
use Rattle.image_check.specs.Digests.{IsTrueOf, Knows}
use Rattle.image_check.proofs.DigestLemmas.{made-true, none-right, noted-knows, remembered-true}
use Rattle.image_check.proofs.recalling.digest_fault_by.Goals as goal

pub returns-in-Some-clause-exact : goal.returns-in-Some-clause-exact
returns-in-Some-clause-exact g c =
    c.answer_of.ensures
    ∙ sym (remembered-true (g.B.Board.state c.args.board.now).content c.args.window c.args.cpu
    c.args.digests.now.entries.items c.in-Some.right c.requires.knows
    (sym c.remembered.ensures ∙ c.in-Some.is) c.args.candidate.now c.requires.stands)

pub returns-in-None-clause-knows : goal.returns-in-None-clause-knows
returns-in-None-clause-knows g c =
    let content = (g.B.Board.state c.args.board.now).content in
    let made = made-true content c.args.window c.args.cpu c.args.candidate.now c.digest_fault-answer.result
    c.requires.stands c.digest_fault-answer.ensures.exact in
    subst (λ d. Knows d content) (sym c.note.ensures) (noted-knows content c.args.digests.now _ c.requires.knows
    (subst (λ right. IsTrueOf content (record { window = c.args.window; cpu = c.args.cpu; right = right }))
    (sym (none-right c.digest_fault-answer.result c.is_none-right.result c.is_none-right.ensures)) made))
