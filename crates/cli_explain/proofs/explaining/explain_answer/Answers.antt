use Rattle.std.proofs.Common.{◌∙◌, ap, length, ◌/◌, false, []}
use Rattle.boot_reasons.specs.Reasons.{table_of_reasons}
use Rattle.cli_course.specs.Outcomes.{Answers, worked}
use Rattle.cli_explain.specs.Texts.{explain_text}
use Rattle.cli_explain.proofs.SoundPartLemmas.{sound-parts, sound-reasons}
use Rattle.cli_explain.proofs.explaining.explain_answer.Goals as goal

pub explain_text-requires : goal.explain_text-requires
explain_text-requires g c =
    let content = (g.B.Board.state c.args.board.now).content in
    sound-parts (length content.flash / 4096) (table_of_reasons c.gather-reasons.result)
    (sound-reasons content c.args.cpu c.args.kind c.gather-reasons.result c.gather-reasons.ensures.function)

pub returns : goal.returns
returns g c =
    c.told.ensures
    ∙ ap (λ text. worked (Answers false text []))
    (c.in_ok-text.ensures ∙ ap explain_text c.gather-reasons.ensures.function)
