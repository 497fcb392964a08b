-- What is told of the content that a cut leaves. A script leads from the content c to the content
-- z, and the cut leaves d.
use Rattle.std.specs.Prelude.{ℕ, Bool, not, nat_lt, ◌&&◌, ◌||◌, List, map}
use Rattle.pico_board.specs.declared.Step.{Step}
use Rattle.pico_board.specs.declared.boot.Cpu.{Cpu}
use Rattle.pico_board.specs.declared.boot.BootKind.TheVariants.{Normal}
use Rattle.pico_board.specs.Content.{Content}
use Rattle.boot_rules.specs.Choosing.{decision_in}
use Rattle.boot_rules.specs.Tables.{table_in}
use Rattle.slot_caveats.specs.declared.caveat.Caveat.{Caveat}
use Rattle.boot_caveats.specs.Caveats.{caveats_in}
use Rattle.boot_cuts.specs.declared.answers.Answer.{Answer}
use Rattle.cut_class.specs.declared.class.Class.{Class}
use Rattle.cut_class.specs.declared.class.Class.TheVariants.{Former, Mixed, Bootsel}
use Rattle.boot_cuts.specs.Answers.{answer_of}
use Rattle.boot_cuts.specs.Classing.{class_of, is_start}
use Rattle.cut_class.specs.Classes.{is_same_class}
use Rattle.check_images.specs.Comparing.{is_same_found}
use Rattle.check_images.specs.Raising.{boot_raises}
use Rattle.check_data.specs.declared.found.DataWindow.{DataWindow}
use Rattle.check_data.specs.Early.{starts_early}
use Rattle.check_data.specs.Others.{is_other_data}

-- what cuts are judged beside: c and z, the steps that the script leaves torn, the processor, the
-- windows with data, and the loose bytes of the image that starts on z
pub record Sides : Type 0 where
  pub first : Content
  pub last : Content
  pub torn : List Step
  pub cpu : Cpu
  pub windows : List DataWindow
  pub loose : List ℕ

-- the class of a cut that leaves d is this one
abbrev pub is_of_class : Sides → Class → Content → Bool
is_of_class s class d = is_same_class class (class_of s.first s.last s.torn s.cpu d)

-- a normal boot on d falls
abbrev pub falls_on : Cpu → Content → Bool
falls_on cpu d = not (is_start (decision_in d cpu Normal))

-- the image that starts on z starts on d before its loose bytes are there
abbrev pub is_early : Sides → Content → Bool
is_early s d = starts_early s.first s.last s.cpu s.loose d

-- on d an image runs on other data than its own, in this window
abbrev pub is_on_other_data : Sides → DataWindow → Content → Bool
is_on_other_data s w d = is_other_data s.first s.last s.cpu w d

-- a cut that leaves d is mixed, and a normal boot on d raises a row
abbrev pub is_raising : Sides → Content → Bool
is_raising s d = is_of_class s Mixed d && nat_lt 0 (boot_raises d s.cpu)

-- the table of d is not that of c, with its slot
abbrev pub has_other_table : Content → Content → Bool
has_other_table c d = not (is_same_found (table_in d) (table_in c))

-- a cut that leaves d is neither former nor a fall to BOOTSEL
abbrev pub is_other_class : Sides → Content → Bool
is_other_class s d = not (is_of_class s Former d || is_of_class s Bootsel d)

-- the caveats of a normal boot on d
abbrev pub caveats_on : Cpu → Content → List Caveat
caveats_on cpu d = caveats_in d cpu Normal

-- what is told of d
pub record Facts : Type 0 where
  pub answer : Answer
  pub early : Bool
  pub other_data : List Bool
  pub raises : Bool
  pub other_table : Bool
  pub caveats : List Caveat

abbrev pub facts_of : Sides → Content → Facts
facts_of s d = record {
  answer = answer_of s.first s.last s.torn s.cpu d;
  early = is_early s d;
  other_data = map (λ w. is_on_other_data s w d) s.windows;
  raises = is_raising s d;
  other_table = has_other_table s.first d;
  caveats = caveats_on s.cpu d;
}
