use Rattle.std.proofs.Common.{◌∙◌, [], false, ap}
use Rattle.cli_course.specs.Outcomes.{Answers, worked}
use Rattle.cli_scripts.proofs.texts.list_script.Goals as goal

pub returns : goal.returns
returns c = c.told.ensures ∙ ap (λ t. worked (Answers false t [])) c.in_ok-text.ensures
