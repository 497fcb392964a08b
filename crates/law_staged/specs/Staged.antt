-- Staged sessions on one slot of a pair, and what a loss of power in them leaves.
use Rattle.std.specs.Prelude.{◌≡◌, List}
use Rattle.pico_board.specs.declared.Step.{Step}
use Rattle.pico_board.specs.declared.boot.Cpu.{Cpu}
use Rattle.pico_board.specs.declared.boot.BootKind.TheVariants.{Normal}
use Rattle.pico_board.specs.declared.window.Window.{Window}
use Rattle.pico_board.specs.Content.{Content, IsContent}
use Rattle.image_check.specs.SameImage.{SameImage}
use Rattle.slot_choice.specs.declared.choice.Choice.{Choice}
use Rattle.boot_rules.specs.declared.decision.Decision.{Decision}
use Rattle.boot_rules.specs.declared.decision.Decision.TheVariants.{Start}
use Rattle.boot_rules.specs.Chosen.{Chosen, IsBootMember}
use Rattle.boot_rules.specs.Tables.{table_in}
use Rattle.boot_session.specs.CutSessions.{StartsOutside}
pub use Rattle.check_laws.specs.Staged.{IsOffPage, Staged}

-- a staged session on one slot w of a pair; a normal boot before it, whose decision is e, starts no
-- image of the slot
pub record StagedSession (c : Content) (w : Window) (cpu : Cpu) (steps : List Step)
    (e : Decision) : Type 0 where
  pub right : IsContent c
  pub boot_member : IsBootMember c w cpu
  pub former : Chosen c cpu Normal e
  pub elsewhere : StartsOutside w e
  pub staged : Staged c steps w cpu

-- d has the table that c has, a normal boot on d decides e as on c, and an image that it starts has
-- the same bytes in both
pub record StartsAsBefore (c d : Content) (cpu : Cpu) (e : Decision) : Type 0 where
  pub table : table_in d ≡ table_in c
  pub decides : Chosen d cpu Normal e
  pub same : (choice : Choice) → e ≡ Start choice → SameImage c d choice.image cpu
