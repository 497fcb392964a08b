use Rattle.std.proofs.Common.{ap, string_bytes, ◌∙◌, ◌+◌, ◌++◌}
use Rattle.cli_course.specs.Outcomes.{line}
use Rattle.cli_explain.specs.Texts.{unreached_lines, unreached_text}
use Rattle.cli_explain.proofs.UnreachedLemmas.{unreached_more}
use Rattle.cli_explain.proofs.texts.unreached_lines.Goals as goal

pub loop-i-preserved : goal.loop-i-preserved
loop-i-preserved c =
    unreached_more c.args.first c.loop-i.i c.args.count (string_bytes c.loop-i.text) (string_bytes c.in_ok-line.line)
    (string_bytes c.push_str.new.self) (unreached_lines c.args.first c.args.count) c.loop-i-test.true
    c.loop-i.invariant
    (c.in_ok-line.ensures ∙ ap line (c.deref.ensures ∙ (c.in_ok-unit.ensures
    ∙ ap (λ k. unreached_text (c.args.first + k)) c.from.ensures)))
    (c.in_ok-push_str.ensures.bytes ∙ ap (λ s. string_bytes c.loop-i.text ++ s) c.deref-in-loop-i.ensures)
