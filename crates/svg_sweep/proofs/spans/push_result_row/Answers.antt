use Rattle.std.proofs.Common.{◌≡◌, ap, map}
use Rattle.std.specs.List.{flat_map}
use Rattle.svg_marks.specs.Marks.{StripEnd, mark_text}
use Rattle.svg_sweep.specs.Runs.{chance_runs, runs}
use Rattle.svg_sweep.specs.Charts.{bar, result_row, spans_from}
use Rattle.svg_sweep.proofs.RunLemmas.{row-drawn}
use Rattle.svg_sweep.proofs.spans.push_result_row.Goals as goal

pub returns-clause-drawn : goal.returns-clause-drawn
unfolding result_row
returns-clause-drawn c =
    let classes = c.args.classes.now in
    let same : c.deref-2.result.now ≡ runs classes = cc (c.deref-2.ensures.value, c.in_ok-runs.ensures.exact) in
    let chances : c.deref-3.result.now ≡ chance_runs (runs classes) =
    cc (c.deref-3.ensures.value, c.in_ok-chances.ensures.exact, c.deref.ensures.value, c.in_ok-runs.ensures.exact) in
    row-drawn _ _ _ _ _ _ (map (bar c.args.part.now) (runs classes))
    (spans_from c.args.top 0 (chance_runs (runs classes))) StripEnd _ _ c.in_ok-push_row_front.ensures
    c.in_ok-push_bars.ensures (ap (λ rs. flat_map mark_text (map (bar c.args.part.now) rs)) same)
    c.in_ok-close_strip.ensures c.in_ok-push_spans.ensures
    (ap (λ rs. flat_map mark_text (spans_from c.args.top 0 rs)) chances)
