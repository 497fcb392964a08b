-- What is right for the commands on a board, by the rules of a boot.
use Rattle.std.specs.Prelude.{◌≡◌, ◌⊎◌, ℕ, false, List, [], ◌∷◌, ◌++◌}
use Rattle.std.specs.List.{flat_map}
use Rattle.pico_board.specs.declared.boot.Cpu.{Cpu}
use Rattle.pico_board.specs.declared.boot.BootKind.{BootKind}
use Rattle.pico_board.specs.declared.window.Window.{Window}
use Rattle.pico_board.specs.Content.{Content}
use Rattle.image_def.specs.declared.started.Started.{Started}
use Rattle.image_check.specs.declared.why.Why.{Why}
use Rattle.image_check.specs.Valid.{Valid}
use Rattle.image_check.specs.WhyNot.{WhyNot}
use Rattle.image_check.specs.NotBelow.{NotBelow}
use Rattle.slot_choice.specs.declared.choice.Choice.{Choice}
use Rattle.boot_rules.specs.declared.decision.Decision.{Decision}
use Rattle.boot_rules.specs.declared.decision.Decision.TheVariants.{Start, Bootsel as FallsToBootsel}
use Rattle.boot_rules.specs.Chosen.{Chosen}
use Rattle.boot_rules.specs.Tables.{table_in}
use Rattle.cli_course.specs.declared.status.Status.{Status}
use Rattle.cli_course.specs.declared.status.Status.TheVariants.{Done, Bootsel}
use Rattle.cli_course.specs.Outcomes.{AnswerView, line}
use Rattle.text_lines.specs.Texts.{decision_line, table_text, valid_text, invalid_text}
use Rattle.cli_boot.specs.Works.{windows_in, decided_data, data_line}

-- the status of a decision
abbrev pub decided_status : Decision → Status
decided_status (Start choice) = Done
decided_status (FallsToBootsel fall) = Bootsel

-- `boot`: the outcome prints the one decision that the rules name; where an image starts, it is
-- not below its rollback rows
pub record IsBootOutcome (c : Content) (cpu : Cpu) (kind : BootKind) (o : AnswerView) : Type 0 where
  pub decision : Decision
  pub chosen : Chosen c cpu kind decision
  pub above : (choice : Choice) → decision ≡ Start choice → NotBelow c.otp choice.image
  pub status : o.status ≡ decided_status decision
  pub text : o.text ≡ decision_line decision
  pub files : o.files ≡ []

-- the line of a window prints its image, which is valid with trial not allowed, or the first rule
-- that fails
abbrev pub IsLineOf : Content → Cpu → Window → List ℕ → Type 0
IsLineOf c cpu w text =
    ((s : Started) × Valid c w cpu false s × (text ≡ line (valid_text w s)))
    ⊎ ((why : Why) × WhyNot c w cpu false why × (text ≡ line (invalid_text w why)))

-- the lines of windows, one after another
abbrev pub AreLinesOf : Content → Cpu → List Window → List ℕ → Type 0
AreLinesOf c cpu [] text = text ≡ []
AreLinesOf c cpu (w ∷ ws) text =
    (first : List ℕ) × (rest : List ℕ) × IsLineOf c cpu w first × AreLinesOf c cpu ws rest
    × (text ≡ first ++ rest)

-- `info`: the outcome prints the table, and then each window
pub record IsInfoOutcome (c : Content) (cpu : Cpu) (o : AnswerView) : Type 0 where
  pub lines : List ℕ
  pub windows : AreLinesOf c cpu (windows_in c cpu) lines
  pub status : o.status ≡ Done
  pub text : o.text ≡ line (table_text (table_in c)) ++ lines
  pub files : o.files ≡ []

-- `data`: the outcome prints the one decision that the rules name, and then the windows of the
-- data of a started image
pub record IsDataOutcome (c : Content) (cpu : Cpu) (kind : BootKind) (o : AnswerView) : Type 0 where
  pub decision : Decision
  pub chosen : Chosen c cpu kind decision
  pub status : o.status ≡ decided_status decision
  pub text : o.text ≡ decision_line decision ++ flat_map data_line (decided_data c decision)
  pub files : o.files ≡ []
