use Rattle.std.proofs.Common.{◌≡◌, ◌/◌, ◌∙◌, false, length, ap, sym, subst, IfOk}
use Rattle.cli_course.specs.Outcomes.{Answers, AnswerView, one_file, worked}
use Rattle.cli_course.specs.Views.{answer_from}
use Rattle.cli_scripts.specs.Copies.{blocks_in, copy_line}
use Rattle.cli_scripts.proofs.BlockLemmas.{blocks-count}
use Rattle.cli_scripts.proofs.copying.copy_uf2.Goals as goal

pub returns : goal.returns
returns c =
    let n = length c.args.uf2.bytes.now / 512 in
    subst (λ (o : AnswerView). IfOk c.one_file.result (λ answer. answer_from answer ≡ o))
    (ap (λ t. worked (Answers false t (one_file c.args.out.now c.in_ok-script.script.items)))
    (c.in_ok-line.ensures ∙ ap copy_line (sym (blocks-count n c.args.uf2.bytes.now)))
    ∙ ap (λ bytes. worked (Answers false (copy_line (length (blocks_in n c.args.uf2.bytes.now)))
    (one_file c.args.out.now bytes))) c.in_ok-script.ensures)
    c.one_file.ensures
