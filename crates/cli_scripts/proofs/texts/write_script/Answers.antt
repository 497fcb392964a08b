use Rattle.std.proofs.Common.{◌≡◌, sym, rules, subst, IfOk}
use Rattle.cli_course.specs.Outcomes.{AnswerView}
use Rattle.cli_course.specs.Views.{answer_from}
use Rattle.cli_scripts.proofs.TextRuleLemmas.{fault-refused, written-told}
use Rattle.cli_scripts.proofs.texts.write_script.Goals as goal

pub returns-in_ok-line-in-Ok : goal.returns-in_ok-line-in-Ok
returns-in_ok-line-in-Ok c =
    subst (λ (o : AnswerView). IfOk c.one_file.result (λ answer. answer_from answer ≡ o))
    (written-told c.args.name.now c.args.out.now c.args.image.now c.args.text.bytes.now _ c.in-Ok.script c.in-Ok.ensures.ok
    c.in_ok-line-in-Ok.ensures) c.one_file.ensures

pub returns-in-Err : goal.returns-in-Err
returns-in-Err c =
    subst (λ (o : AnswerView). IfOk c.unread.result (λ answer. answer_from answer ≡ o))
    (sym (fault-refused c.args.name.now c.args.out.now c.args.image.now c.args.text.bytes.now c.in-Err.fault c.args.text.short
    (c.in-Err.ensures.err (search rules)))) c.unread.ensures
