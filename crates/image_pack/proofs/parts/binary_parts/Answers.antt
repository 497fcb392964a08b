use Rattle.std.proofs.Common.{ap, ◌∙◌}
use Rattle.image_pack.specs.Sealing.{parts_in}
use Rattle.image_pack.proofs.WithinLemmas.{IsWithin-answer}
use Rattle.image_pack.proofs.parts.binary_parts.Goals as goal

pub returns-clause-within : goal.returns-clause-within
returns-clause-within c =
    IsWithin-answer c.args.binary.now c.args.cpu c.parts_in.result c.requires
    (c.parts_in.ensures ∙ ap (parts_in c.args.cpu) (c.deref.ensures.value ∙ c.in_ok-sectors.ensures))
