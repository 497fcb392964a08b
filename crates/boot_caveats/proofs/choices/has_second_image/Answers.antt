use Rattle.std.proofs.Common.{ap, ◌∙◌}
use Rattle.pico_board.specs.Content.{window_bytes}
use Rattle.slot_caveats.specs.SlotCaveats.{has_executable}
use Rattle.boot_caveats.proofs.choices.has_second_image.Goals as goal

pub returns : goal.returns
returns g c =
    c.has_executable.ensures
    ∙ ap (λ w. has_executable (window_bytes (g.B.Board.state c.args.board.now).content w)) c.flash_from-window.ensures
