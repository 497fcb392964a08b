use Rattle.std.proofs.Common.{◌<◌, subst}
use Rattle.std.proofs.lemmas.List.{get_or_default}
use Rattle.cli_course.proofs.course.has_bytes.Goals as goal

pub returns : goal.returns
returns c = λ k d lt.
    subst (λ b. b < 256) (get_or_default c.args.file.now k 0 d lt) (c.type_inv.file k).fits
