use Rattle.std.proofs.Common.{sym, ap, ◌∙◌, Some}
use Rattle.boot_rules.specs.Stages.{candidate_version}
use Rattle.boot_rules.proofs.PickLemmas.{by-first, by-none, by-second, or-some, taken-seen}
use Rattle.boot_rules.proofs.picking.taken.Goals as goal

pub returns-in-None-clause-exact : goal.returns-in-None-clause-exact
returns-in-None-clause-exact g c =
    by-none _ _ _ (sym c.better.ensures ∙ c.in-None.is)
    ∙ taken-seen (g.B.Board.state c.args.board.now).content c.args.cpu c.args.unit.now c.version_of.result
    c.version_of-2.result
    (c.version_of.ensures ∙ ap candidate_version c.candidate_in-first.ensures.exact)
    (c.version_of-2.ensures ∙ ap candidate_version c.candidate_in-second.ensures.exact)

pub returns-in-Some-clause-exact : goal.returns-in-Some-clause-exact
returns-in-Some-clause-exact g c =
    by-first _ _ _ _ (sym c.better.ensures ∙ c.in-Some-A.is ∙ ap Some c.in-Some-A.field-0-is)
    (or-some _ _ _ (sym c.confirmed.ensures.exact ∙ c.in-Some.is))
    ∙ taken-seen (g.B.Board.state c.args.board.now).content c.args.cpu c.args.unit.now c.version_of.result
    c.version_of-2.result
    (c.version_of.ensures ∙ ap candidate_version c.candidate_in-first.ensures.exact)
    (c.version_of-2.ensures ∙ ap candidate_version c.candidate_in-second.ensures.exact)

pub returns-in-Some-confirmed-clause-exact : goal.returns-in-Some-confirmed-clause-exact
returns-in-Some-confirmed-clause-exact g c =
    by-second _ _ _ _ (sym c.better.ensures ∙ c.in-Some-B.is ∙ ap Some c.in-Some-B.field-0-is)
    (or-some _ _ _ (sym c.confirmed-in-Some-B.ensures.exact
    ∙ c.in-Some-confirmed.is))
    ∙ taken-seen (g.B.Board.state c.args.board.now).content c.args.cpu c.args.unit.now c.version_of.result
    c.version_of-2.result
    (c.version_of.ensures ∙ ap candidate_version c.candidate_in-first.ensures.exact)
    (c.version_of-2.ensures ∙ ap candidate_version c.candidate_in-second.ensures.exact)
