use Rattle.std.proofs.Common.{◌∙◌, ap, refl, sym, Some, ◌%◌, ◌^◌}
use Rattle.std.proofs.lemmas.Bool.{eq-eqb, true≢false}
use Rattle.block_codec.specs.Kinds.{first_spelling}
use Rattle.block_codec.specs.declared.kinds.TheConstants.{IMAGE_TYPE}
use Rattle.image_def.proofs.TrialLemmas.{image_there, flags_there, definition-cleared, flags-cleared, suits-cleared, size-cleared, changed-cleared, item-cleared}
use Rattle.image_def.proofs.laws.trial_bit_cleared.Goals as goal

pub returns-clause-definition : goal.returns-clause-definition
returns-clause-definition c b whole typed = let image = image_there b typed in
    definition-cleared b whole image.0 image.1

pub returns-clause-flags : goal.returns-clause-flags
returns-clause-flags c b flags whole is =
    let image = flags_there b flags is in
    flags-cleared b whole image.0 image.1 ∙ ap (λ f. Some (f % 2 ^ 15)) image.2

pub returns-clause-suits : goal.returns-clause-suits
returns-clause-suits c b cpu whole typed = let image = image_there b typed in suits-cleared b whole image.0 image.1 cpu

pub returns-clause-size : goal.returns-clause-size
returns-clause-size c b whole typed = let image = image_there b typed in size-cleared b whole image.0 image.1

pub returns-clause-changed : goal.returns-clause-changed
returns-clause-changed c b item whole is = changed-cleared b whole item is _ refl

pub returns-clause-items : goal.returns-clause-items
returns-clause-items c b j item whole typed at other = let image = image_there b typed in
    item-cleared b whole image.0 image.1 j item at
    (λ e. absurd (true≢false (sym (eq-eqb (first_spelling item.kind) IMAGE_TYPE e) ∙ other)))
