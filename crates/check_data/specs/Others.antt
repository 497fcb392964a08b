-- At which contents an image runs on data other than those with which it stands. A script leads
-- from the content c to the content z, and a cut leaves d.
use Rattle.std.specs.Prelude.{◌≡◌, ◌≢◌, ◌⊎◌, ◌&&◌, ◌||◌, Bool, true, false, not, bytes_eq, List, Contains}
use Rattle.pico_board.specs.declared.boot.Cpu.{Cpu}
use Rattle.pico_board.specs.declared.boot.BootKind.TheVariants.{Normal}
use Rattle.pico_board.specs.declared.window.Window.{Window}
use Rattle.pico_board.specs.Content.{Content, window_bytes}
use Rattle.slot_choice.specs.declared.choice.Choice.{Choice}
use Rattle.boot_rules.specs.declared.decision.Decision.{Decision}
use Rattle.boot_rules.specs.declared.decision.Decision.TheVariants.{Start}
use Rattle.boot_rules.specs.Chosen.{Chosen}
use Rattle.boot_rules.specs.Choosing.{decision_in}
use Rattle.boot_sweep.specs.Comparing.{is_same_decision}
use Rattle.boot_sweep.specs.Moving.{MoveView}
use Rattle.boot_cuts.specs.Classing.{is_start}
use Rattle.boot_cuts.specs.Tears.{IsLeftTorn}
use Rattle.check_require.specs.declared.report.DataOwner.{DataOwner}
use Rattle.check_require.specs.declared.report.DataOwner.TheVariants.{Both, Former, End}
use Rattle.check_require.specs.declared.report.DataWritten.{DataWritten}
use Rattle.check_require.specs.declared.report.DataWritten.TheVariants.{Yes, No, Torn}
use Rattle.check_data.specs.declared.found.DataWindow.{DataWindow}
use Rattle.check_data.specs.Windows.{data_in}

-- x speaks of the window at d: the decision on d is a start and is that on x, which has the window
pub record Speaks (x d : Content) (cpu : Cpu) (w : Window) : Type 0 where
  pub choice : Choice
  pub here : Chosen d cpu Normal (Start choice)
  pub there : Chosen x cpu Normal (Start choice)
  pub listed : Contains (data_in x (Start choice)) w

-- x is c, or z where the window is not left torn
abbrev pub IsEnd : Content → Content → List MoveView → Window → Content → Type 0
IsEnd c z moves w x = (x ≡ c) ⊎ ((x ≡ z) × (IsLeftTorn moves w → ⊥))

-- at d an image runs on other data: an end speaks of the window, and the window has other bytes in
-- d than in each end that does
pub record RunsOnOthers (c z : Content) (moves : List MoveView) (cpu : Cpu) (w : Window)
    (d : Content) : Type 0 where
  pub side : Content
  pub is_end : IsEnd c z moves w side
  pub speaks : Speaks side d cpu w
  pub others : (x : Content) → IsEnd c z moves w x → Speaks x d cpu w
      → window_bytes d w ≢ window_bytes x w

-- the window is one of the data of the former decision
abbrev pub is_of_former : DataOwner → Bool
is_of_former Both = true
is_of_former Former = true
is_of_former End = false

-- it is one of those of the decision at the end
abbrev pub is_of_end : DataOwner → Bool
is_of_end Both = true
is_of_end Former = false
is_of_end End = true

-- it is not left torn
abbrev pub is_whole : DataWritten → Bool
is_whole Yes = true
is_whole No = true
is_whole Torn = false

-- the former decision speaks of the window where a boot decides e
abbrev pub is_by_former : Decision → DataWindow → Decision → Bool
is_by_former former w e = is_of_former w.of && is_same_decision e former

-- the decision at the end does
abbrev pub is_by_end : Decision → DataWindow → Decision → Bool
is_by_end finished w e = is_of_end w.of && (is_whole w.written && is_same_decision e finished)

-- the window has other bytes in d than in x
abbrev pub has_other_bytes : Content → Content → Window → Bool
has_other_bytes x d w = not (bytes_eq (window_bytes d w) (window_bytes x w))

-- Where a boot on d decides e: one of the two decisions speaks of the window, and the window has
-- other bytes in d than in each content that speaks.
abbrev pub is_other_data_by : Decision → Decision → Content → Content → DataWindow → Content
    → Decision → Bool
is_other_data_by former finished c z w d e =
    is_start e && ((is_by_former former w e || is_by_end finished w e)
    && ((not (is_by_former former w e) || has_other_bytes c d w.window)
    && (not (is_by_end finished w e) || has_other_bytes z d w.window)))

-- what a cut leaves has an image run on other data, as a function
abbrev pub is_other_data : Content → Content → Cpu → DataWindow → Content → Bool
is_other_data c z cpu w d =
    is_other_data_by (decision_in c cpu Normal) (decision_in z cpu Normal) c z w d
    (decision_in d cpu Normal)
