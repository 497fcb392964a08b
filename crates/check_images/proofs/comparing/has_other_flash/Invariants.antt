use Rattle.std.proofs.Common.{◌≡◌, ◌*◌, length, take}
use Rattle.pico_board.specs.MemBoard.{state_of}
use Rattle.check_images.proofs.comparing.has_other_flash.Given as goal

-- the sectors so far are the same
abbrev pub invariant-loop-sector : goal.invariant-loop-sector
invariant-loop-sector l = record {
  long : length (state_of l.end).content.flash ≡ length (state_of l.start).content.flash;
  same : take (4096 * l.sector) (state_of l.end).content.flash
      ≡ take (4096 * l.sector) (state_of l.start).content.flash;
}
