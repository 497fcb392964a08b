use Rattle.std.proofs.Common.{◌∙◌, ap, subst, sym}
use Rattle.check_images.specs.Effects.{IsEffect, effect_of}
use Rattle.check_images.proofs.EffectLemmas.{effect-is, other-class}
use Rattle.check_images.proofs.effects.effect_of.Goals as goal

pub returns-else-is_same_class-clause-effect : goal.returns-else-is_same_class-clause-effect
returns-else-is_same_class-clause-effect c = λ b z moves cpu first last class.
    let is = sym c.changed_effect.ensures in
    subst (λ e. IsEffect b z cpu e)
    (ap (λ d. effect_of c.args.former.now d c.args.end) c.in-Start.is
    ∙ (other-class c.args.former.now c.in-Start.choice c.args.end (sym c.is_same_class.ensures ∙ c.if-is_same_class.false) ∙ is))
    (effect-is b z moves cpu c.args.former.now c.args.last.now c.args.end first last class)
