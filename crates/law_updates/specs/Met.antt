-- What an update is that meets what is asked where a team asks nothing of its own.
use Rattle.std.specs.Prelude.{◌≡◌, ◌≢◌, ⊤, ℕ, ◌+◌, false}
use Rattle.pico_board.specs.declared.boot.Cpu.{Cpu}
use Rattle.pico_board.specs.declared.boot.BootKind.TheVariants.{Normal}
use Rattle.pico_board.specs.Content.{Content}
use Rattle.slot_choice.specs.declared.choice.Choice.{Choice}
use Rattle.boot_rules.specs.declared.decision.Decision.TheVariants.{Start}
use Rattle.boot_rules.specs.Chosen.{Chosen}
use Rattle.check_images.specs.declared.found.ImageFacts.{ImageFacts}
use Rattle.check_images.specs.Boots.{after_boot}
use Rattle.check_images.specs.Images.{IsImageOf}
use Rattle.cut_class.specs.declared.class.Class.{Class}
use Rattle.cut_class.specs.declared.class.Class.TheVariants.{Former, Finished, Whole, Tail, Mixed, Bootsel}
use Rattle.check_require.specs.declared.report.ImageEffect.TheVariants.{Unchanged}
use Rattle.check_require.specs.Reports.{ReportView}
use Rattle.law_updates.specs.Boots.{after_boots}

-- what starts is as before, or stands whole before or at the end
abbrev pub StartsWhole : Class → Type 0
StartsWhole Former = ⊤
StartsWhole Finished = ⊤
StartsWhole Whole = ⊤
StartsWhole Tail = ⊥
StartsWhole Mixed = ⊥
StartsWhole Bootsel = ⊥

-- Another image starts at the end. No cut that is counted, and not the whole update, leaves nothing
-- to start where something did, or starts an image that stands whole neither before nor at the end;
-- and none has a row raised for such an image.
pub record LeavesWholeImages (r : ReportView) : Type 0 where
  pub image : r.image ≢ Unchanged
  pub tail : r.cuts.tail ≡ 0
  pub mixed : r.cuts.mixed ≡ 0
  pub bootsel : r.cuts.bootsel ≡ 0
  pub end : StartsWhole r.end_class
  pub by_mixed : r.by_mixed ≡ 0

-- An image of which this is told starts on z, and each of any number of normal boots after z starts
-- it too. What the first of them leaves, all later ones leave.
pub record GoesOn (z : Content) (cpu : Cpu) (told : ImageFacts) : Type 0 where
  pub choice : Choice
  pub image : IsImageOf z choice.image.window cpu false told
  pub starts : (n : ℕ) → Chosen (after_boots n z cpu) cpu Normal (Start choice)
  pub left : (n : ℕ) → after_boots (n + 1) z cpu ≡ after_boot z cpu
