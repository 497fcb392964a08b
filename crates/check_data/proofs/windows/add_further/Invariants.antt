use Rattle.std.proofs.Common.{◌≡◌, ◌++◌, map, drop}
use Rattle.std.specs.Prelude.{filter, not}
use Rattle.boot_tape.specs.Moving.{moves_from}
use Rattle.check_require.specs.declared.report.DataOwner.TheVariants.{End}
use Rattle.check_data.specs.Windows.{is_listed, told_window}
use Rattle.check_data.proofs.windows.add_further.Given as goal

-- those so far, and those of the rest, are all
abbrev pub invariant-loop-window : goal.invariant-loop-window
invariant-loop-window l =
    l.told.items
    ++ map (told_window (moves_from l.moves) End)
    (filter (λ w. not (is_listed l.others w)) (drop l.window-index l.windows))
    ≡ l.fn.told.items
    ++ map (told_window (moves_from l.moves) End) (filter (λ w. not (is_listed l.others w)) l.windows)
