-- At which contents the image that a script leaves starts before its loose bytes are there. A
-- script leads from the content c to the content z, and a cut leaves d.
use Rattle.std.specs.Prelude.{◌≢◌, ℕ, ◌==◌, ◌&&◌, ◌||◌, Bool, not, List, slice_index}
use Rattle.std.specs.List.{list_any}
use Rattle.pico_board.specs.declared.boot.Cpu.{Cpu}
use Rattle.pico_board.specs.declared.boot.BootKind.TheVariants.{Normal}
use Rattle.pico_board.specs.Content.{Content}
use Rattle.boot_rules.specs.declared.decision.Decision.{Decision}
use Rattle.boot_rules.specs.Chosen.{Chosen}
use Rattle.boot_rules.specs.Choosing.{decision_in}
use Rattle.boot_sweep.specs.Comparing.{is_same_decision}
use Rattle.boot_sweep.specs.Moving.{MoveView}
use Rattle.check_data.specs.Loose.{IsLoose}

-- some loose byte differs in d from x
pub record LacksLoose (z : Content) (cpu : Cpu) (moves : List MoveView) (x d : Content)
    : Type 0 where
  pub place : ℕ
  pub loose : IsLoose z cpu moves place
  pub other : slice_index d.flash place ≢ slice_index x.flash place

-- The decision on d is that on z, and some loose byte differs in d from z. Where the decision on c
-- is that too, some loose byte differs in d from c as well.
pub record StartsEarly (c z : Content) (moves : List MoveView) (cpu : Cpu) (d : Content)
    : Type 0 where
  pub decision : Decision
  pub here : Chosen d cpu Normal decision
  pub last : Chosen z cpu Normal decision
  pub lacks : LacksLoose z cpu moves z d
  pub also : Chosen c cpu Normal decision → LacksLoose z cpu moves c d

-- one of these bytes differs in d from x
abbrev pub has_other_loose : Content → Content → List ℕ → Bool
has_other_loose x d loose =
    list_any (λ at. not (slice_index d.flash at == slice_index x.flash at)) loose

-- where a boot on d decides e
abbrev pub starts_early_by : Decision → Decision → Content → Content → List ℕ → Content → Decision
    → Bool
starts_early_by former finished c z loose d e =
    is_same_decision e finished && (has_other_loose z d loose
    && (not (is_same_decision e former) || has_other_loose c d loose))

-- what a cut leaves starts before the loose bytes are there, as a function
abbrev pub starts_early : Content → Content → Cpu → List ℕ → Content → Bool
starts_early c z cpu loose d =
    starts_early_by (decision_in c cpu Normal) (decision_in z cpu Normal) c z loose d
    (decision_in d cpu Normal)
