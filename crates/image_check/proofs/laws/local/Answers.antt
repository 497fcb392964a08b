use Rattle.std.proofs.Common.{◌∙◌, ap}
use Rattle.image_check.specs.Image.{image_in}
use Rattle.image_check.proofs.LawLemmas.{image-local}
use Rattle.image_check.proofs.RollbackLemmas.{same-rows}
use Rattle.image_check.proofs.laws.local.Goals as goal

pub returns-clause-flash : goal.returns-clause-flash
returns-clause-flash c = image-local

pub returns-clause-any_base : goal.returns-clause-any_base
returns-clause-any_base c = λ base in_place w cpu trial otp other bytes those same rows.
    ap (λ xs. image_in (record { base = base; in_place = in_place }) w cpu trial xs bytes) rows
    ∙ ap (image_in (record { base = base; in_place = in_place }) w cpu trial other) same

pub returns-clause-rows : goal.returns-clause-rows
returns-clause-rows c = same-rows
