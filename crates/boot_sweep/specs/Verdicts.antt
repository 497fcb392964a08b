-- Which decision a normal boot makes on a content that a cut left, and what is known of it from
-- the one before.
use Rattle.std.specs.Prelude.{◌≡◌, ⊤, true, false, if◌then◌else◌, IfSome, IsSome, List, Option, Some, None}
use Rattle.pico_board.specs.declared.Step.{Step}
use Rattle.pico_board.specs.declared.boot.Cpu.{Cpu}
use Rattle.pico_board.specs.declared.boot.BootKind.TheVariants.{Normal}
use Rattle.pico_board.specs.declared.window.Window.{Window}
use Rattle.pico_board.specs.Content.{Content, IsContent}
use Rattle.pico_board.specs.Sessions.{Confined, IsConfined, SameButWindow}
use Rattle.boot_rules.specs.declared.decision.Decision.{Decision}
use Rattle.boot_rules.specs.Choosing.{decision_in, images_in}
use Rattle.boot_rules.specs.Chosen.{IsBootMember}
use Rattle.boot_rules.specs.Tables.{table_in}
use Rattle.boot_sweep.specs.declared.results.Verdict.{Verdict}
use Rattle.boot_sweep.specs.declared.results.Verdict.TheVariants.{Before, After, Other}
use Rattle.boot_sweep.specs.declared.slots.Slot.{Slot}
use Rattle.boot_sweep.specs.declared.slots.Last.{Last}
use Rattle.boot_sweep.specs.Comparing.{is_same_decision}

-- which decision e is, beside the former and the finished one
abbrev pub verdict_by : Decision → Decision → Decision → Verdict
verdict_by former finished e =
    if is_same_decision e former then Before
    else if is_same_decision e finished then After
    else Other

-- the slot is a member of a pair of the content c, in which all the steps lie. It says where c has
-- a table.
pub record IsSweptSlot (c : Content) (cpu : Cpu) (steps : List Step) (slot : Slot) : Type 0 where
  pub boot_member : IsBootMember c slot.window cpu
  pub table : slot.has_table ≡ true → IsSome (table_in c)
  pub confined : Confined steps slot.window

-- d differs from the content c in the slot alone
pub record IsBeside (c : Content) (cpu : Cpu) (slot : Slot) (d : Content) : Type 0 where
  pub right : IsContent c
  pub boot_member : IsBootMember c slot.window cpu
  pub table : slot.has_table ≡ true → IsSome (table_in c)
  pub same : SameButWindow slot.window c d

-- some content differs from c in the window alone, and has its table. It had this image in the
-- window, and this was the decision on it.
pub record IsLastVerdict (c : Content) (cpu : Cpu) (former finished : Decision) (w : Window)
    (last : Last) : Type 0 where
  pub content : Content
  pub same : SameButWindow w c content
  pub table : table_in content ≡ table_in c
  pub image : images_in content cpu w false ≡ last.image
  pub verdict : verdict_by former finished (decision_in content cpu Normal) ≡ last.verdict

-- what is known on the content d. Where the steps lie in a slot, d differs from c there alone, and
-- the decision before was made on such a content.
pub record IsKnown (c : Content) (cpu : Cpu) (former finished : Decision) (slot : Slot)
    (last : Option Last) (d : Content) : Type 0 where
  pub beside : IsBeside c cpu slot d
  pub before : IfSome last (IsLastVerdict c cpu former finished slot.window)

abbrev pub Knows : Content → Cpu → Decision → Decision → Option Slot → Option Last → Content
    → Type 0
Knows c cpu former finished None last d = ⊤
Knows c cpu former finished (Some slot) last d = IsKnown c cpu former finished slot last d

-- the step lies in the slot, where there is one
abbrev pub LiesIn : Option Slot → Step → Type 0
LiesIn None step = ⊤
LiesIn (Some slot) step = IsConfined slot.window step
