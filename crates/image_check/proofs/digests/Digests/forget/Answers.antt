use Rattle.std.proofs.Common.{ap, subst, sym, ◌∙◌}
use Rattle.std.specs.List.{AllByRecursion}
use Rattle.image_check.specs.Digests.{entries_apart, IsTrueOf}
use Rattle.image_check.proofs.DigestLemmas.{apart-true}
use Rattle.image_check.proofs.digests.Digests.forget.Goals as goal

pub returns-clause-knows : goal.returns-clause-knows
returns-clause-knows c = λ before after knows same.
    subst (AllByRecursion (IsTrueOf after))
    (sym (c.entries_apart-self.ensures ∙ ap (entries_apart c.args.start c.args.len) c.as_slice.ensures.value))
    (apart-true before after c.args.start c.args.len _ same knows)
