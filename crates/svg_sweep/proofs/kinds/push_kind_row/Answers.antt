use Rattle.std.proofs.Common.{◌≡◌, [], ◌∷◌, ap, sym, append-nil, length, map, ◌+◌}
use Rattle.std.specs.List.{flat_map}
use Rattle.svg_marks.specs.Marks.{Label, StripEnd, mark_text}
use Rattle.svg_sweep.specs.Runs.{runs}
use Rattle.svg_sweep.specs.Charts.{kind_bar, class_of_step, kind_row, steps_text}
use Rattle.svg_sweep.proofs.RunLemmas.{row-drawn}
use Rattle.svg_sweep.proofs.kinds.push_kind_row.Goals as goal

pub returns : goal.returns
unfolding kind_row
returns c =
    let steps = c.args.steps.now in
    let same : c.deref-2.result.now ≡ runs (map class_of_step steps) =
    cc (c.deref-2.ensures.value, c.in_ok-runs.ensures.exact, c.deref.ensures.value, c.in_ok-kinds.ensures.exact) in
    row-drawn _ _ _ _ _ _ (map (kind_bar steps) (runs (map class_of_step steps)))
    (Label 120 (c.args.top + 42) (steps_text (length steps)) ∷ []) StripEnd _ _ c.in_ok-push_row_front.ensures
    c.in_ok-push_kind_bars.ensures (ap (λ rs. flat_map mark_text (map (kind_bar steps) rs)) same)
    c.in_ok-close_strip.ensures c.in_ok-push_steps.ensures (sym (append-nil _))
