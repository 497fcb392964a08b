use Rattle.std.proofs.Common.{◌∙◌, ap}
use Rattle.std.specs.Prelude.{map}
use Rattle.std.proofs.lemmas.List.{take_all}
use Rattle.pico_board.specs.MemBoard.{state_of}
use Rattle.check_data.specs.declared.found.DataWindow.{DataWindow}
use Rattle.check_counts.specs.Facts.{is_on_other_data}
use Rattle.check_counts.specs.Judging.{sides_by}
use Rattle.check_counts.proofs.judging.other_data_on.Goals as goal

pub returns : goal.returns
returns c =
    c.loop-window.invariant
    ∙ ap (map (λ (w : DataWindow). is_on_other_data (sides_by c.args.counting.now) w (state_of c.args.board.now).content))
    (take_all c.loop-window.window-index c.args.counting.now.windows.now c.loop-window-test.false)
