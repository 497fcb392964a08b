use Rattle.std.proofs.Common.{◌∙◌, ap}
use Rattle.std.specs.Prelude.{map}
use Rattle.pico_board.specs.declared.mem_board.MemBoard.{MemBoard}
use Rattle.pico_board.specs.MemBoard.{state_of}
use Rattle.boot_cuts.specs.declared.answers.Answer.{Answer}
use Rattle.check_data.specs.declared.found.DataWindow.{DataWindow}
use Rattle.check_counts.specs.Facts.{has_other_table, is_on_other_data, is_raising}
use Rattle.check_counts.specs.Judging.{sides_by}
use Rattle.check_counts.proofs.JudgeLemmas.{early-told, facts-told}
use Rattle.check_counts.proofs.judging.facts_by.Goals as goal

pub returns-clause-exact : goal.returns-clause-exact
returns-clause-exact c =
    let counting = c.args.counting.now in
    let s = sides_by counting in
    let d = (state_of c.args.board.now).content in
    let here = ap (λ (b : MemBoard). (state_of b).content) c.board-here.ensures in
    let ends = c.data_ends-ends in
    c.new.ensures
    ∙ facts-told s d c.args.answer c.starts_early-early.result c.is_raising-raises.result
    c.has_other_table-other_table.result c.in_ok-other_data.other_data.items c.in_ok-caveats.caveats.items
    c.requires.answer
    (early-told s d ends.result.former.now ends.result.finished.now c.args.answer.decision
    (state_of ends.result.start.now).content (state_of ends.result.finish.now).content
    (state_of c.board-here.result.now).content c.starts_early-early.result c.starts_early-early.ensures
    (ends.ensures.former ∙ c.requires.ready.ends.former) (ends.ensures.finished ∙ c.requires.ready.ends.finished)
    (ap (λ (b : MemBoard). (state_of b).content) ends.ensures.start)
    (ap (λ (b : MemBoard). (state_of b).content) ends.ensures.finish) here
    (ap (λ (a : Answer). a.decision) c.requires.answer))
    (c.in_ok-other_data.ensures ∙ ap (λ x. map (λ (w : DataWindow). is_on_other_data s w x) s.windows) here)
    (c.is_raising-raises.ensures ∙ ap (is_raising s) here)
    (c.has_other_table-other_table.ensures ∙ ap (has_other_table s.first) here)
    c.in_ok-caveats.ensures.exact
