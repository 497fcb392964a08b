-- Where a choice stands.
use Rattle.std.specs.Prelude.{IfSome}
use Rattle.pico_board.specs.Content.{Content}
use Rattle.part_table.specs.Windows.{IsPlacedIn}
use Rattle.slot_choice.specs.declared.choice.Choice.{Choice}

-- the window of the started image is of whole sectors, at least one, inside the flash, and so is
-- that of the other member
pub record IsPlacedChoice (c : Content) (choice : Choice) : Type 0 where
  pub started : IsPlacedIn c choice.image.window
  pub other : IfSome choice.other (IsPlacedIn c)
