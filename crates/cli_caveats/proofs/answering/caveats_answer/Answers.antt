use Rattle.std.proofs.Common.{List, [], ◌∙◌, ◌++◌, ap, refl, string_bytes}
use Rattle.std.specs.List.{flat_map}
use Rattle.slot_caveats.specs.declared.caveat.Caveat.{Caveat}
use Rattle.text_lines.specs.Texts.{decision_line}
use Rattle.cli_caveats.specs.Texts.{caveat_line}
use Rattle.cli_caveats.proofs.CaveatWorkLemmas.{answered}
use Rattle.cli_caveats.proofs.answering.caveats_answer.Goals as goal

pub returns : goal.returns
returns g c =
    let content = (g.B.Board.state c.args.board.now).content in
    c.ended.ensures
    ∙ answered content c.args.cpu c.args.kind c.decision_status.result (string_bytes c.push_str.new.self)
    (string_bytes c.in_ok-lines.lines) [] c.gather-reasons.result.decision
    c.in_ok-caveats.caveats.items c.decision_status.ensures
    (c.in_ok-push_str.ensures.bytes ∙ (ap (λ t. t ++ c.deref.result.now) c.in_ok-text.ensures
    ∙ ap (λ t. decision_line c.gather-reasons.result.decision ++ t) c.deref.ensures))
    (c.in_ok-lines.ensures ∙ ap (λ (xs : List Caveat). flat_map caveat_line xs) c.as_slice.ensures.value)
    refl c.gather-reasons.ensures.explained.decision
    c.in_ok-caveats.ensures.exact
