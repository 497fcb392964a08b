use Rattle.std.proofs.Common.{refl, sym, subst, ◌∙◌}
use Rattle.image_check.specs.Digests.{MakesAtMost}
use Rattle.image_check.proofs.AnswerLemmas.{err-and_unless, ok-and_unless}
use Rattle.image_check.proofs.DigestLemmas.{asked-made_once}
use Rattle.image_check.proofs.recalling.confirm_by.Goals as goal

pub returns-in-Some-clause-exact : goal.returns-in-Some-clause-exact
returns-in-Some-clause-exact g c = sym (err-and_unless _ _ _ (sym c.digest_fault_by.ensures.exact ∙ c.in-Some.is))

pub returns-in-None-clause-exact : goal.returns-in-None-clause-exact
returns-in-None-clause-exact g c =
    c.record_of.ensures.exact ∙ sym (ok-and_unless _ _ _ (sym c.digest_fault_by.ensures.exact ∙ c.in-None.is) refl)

pub returns-in-Some-clause-made : goal.returns-in-Some-clause-made
returns-in-Some-clause-made g c =
    subst (MakesAtMost 1 c.args.digests.now) (sym c.digest_fault_by.ensures.asked)
    (asked-made_once c.args.window c.args.cpu c.args.candidate.now.def.digest c.digest_fault_by.result c.args.digests.now)

pub returns-in-None-clause-made : goal.returns-in-None-clause-made
returns-in-None-clause-made g c =
    subst (MakesAtMost 1 c.args.digests.now) (sym c.digest_fault_by.ensures.asked)
    (asked-made_once c.args.window c.args.cpu c.args.candidate.now.def.digest c.digest_fault_by.result c.args.digests.now)
