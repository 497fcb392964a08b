-- Whether a script comes to the same end where it is played again.
use Rattle.std.specs.Prelude.{◌≡◌, ◌≢◌, ◌↔◌, ℕ, ◌&&◌, Bool, true, if◌then◌else◌, List, Option, Some, None}
use Rattle.std.specs.List.{Contains, list_any}
use Rattle.pico_board.specs.declared.boot.Cpu.{Cpu}
use Rattle.pico_board.specs.Content.{Content}
use Rattle.boot_script.specs.Events.{EventView}
use Rattle.boot_rules.specs.Tables.{table_in}
use Rattle.boot_cuts.specs.declared.answers.Answer.{Answer}
use Rattle.cut_class.specs.declared.class.Class.TheVariants.{Former, Bootsel}
use Rattle.boot_cuts.specs.Answers.{answers}
use Rattle.boot_cuts.specs.Contents.{cut_contents}
use Rattle.boot_tape.specs.Traces.{trace, trace_steps}
use Rattle.boot_machine.specs.Plays.{powerless}
use Rattle.check_records.specs.declared.found.Again.{Again}
use Rattle.check_records.specs.declared.found.Again.TheVariants.{Yes, NoStep, NoTable, NoTarget}
use Rattle.check_records.specs.Unerased.{IsFirstUnerased, IsUnerased}
use Rattle.check_records.specs.Shares.{shares}
use Rattle.check_records.specs.Unfinished.{is_beginning}

-- one of the contents has another partition table than c, or has it in another slot
pub record HasOtherTable (c : Content) (contents : List Content) : Type 0 where
  pub left : Content
  pub among : Contains contents left
  pub table : table_in left ≢ table_in c

-- the class of one of the answers is neither `former` nor `bootsel`
pub record HasOtherClass (told : List Answer) : Type 0 where
  pub answer : Answer
  pub among : Contains told answer
  pub started : answer.class ≢ Former
  pub other : answer.class ≢ Bootsel

-- what is to be known of the cuts of a script: whether one leaves another table, and whether one
-- has another class than `former` and `bootsel`
pub record AreCutFacts (c : Content) (cpu : Cpu) (events : List EventView) (pattern : List ℕ)
    (other_table other_class : Bool) : Type 0 where
  pub table : (other_table ≡ true)
      ↔ HasOtherTable c (cut_contents pattern (trace c cpu events).done)
  pub class : (other_class ≡ true) ↔ HasOtherClass (answers c cpu events pattern)

-- a step programs what no step before it erases
abbrev pub IsUnerasedTrace : Content → Cpu → List EventView → Type 0
IsUnerasedTrace c cpu events =
    (k : ℕ) × IsUnerased (trace_steps (trace c cpu events).done) k

abbrev pub LeavesOtherTable : Content → Cpu → List EventView → List ℕ → Type 0
LeavesOtherTable c cpu events pattern =
    HasOtherTable c (cut_contents pattern (trace c cpu events).done)

-- an event begins a download, which may go to another slot where a cut starts another image
pub record MayGoElsewhere (c : Content) (cpu : Cpu) (events : List EventView) (pattern : List ℕ)
    : Type 0 where
  pub begins : list_any is_beginning (shares (powerless c cpu) events) ≡ true
  pub class : HasOtherClass (answers c cpu events pattern)

-- what stands against it is the first of these that holds
abbrev pub IsAgain : Content → Cpu → List EventView → List ℕ → Again → Type 0
IsAgain c cpu events pattern (NoStep k) =
    IsFirstUnerased (trace_steps (trace c cpu events).done) k
IsAgain c cpu events pattern NoTable =
    (IsUnerasedTrace c cpu events → ⊥) × LeavesOtherTable c cpu events pattern
IsAgain c cpu events pattern NoTarget =
    (IsUnerasedTrace c cpu events → ⊥) × (LeavesOtherTable c cpu events pattern → ⊥)
    × MayGoElsewhere c cpu events pattern
IsAgain c cpu events pattern Yes =
    (IsUnerasedTrace c cpu events → ⊥) × (LeavesOtherTable c cpu events pattern → ⊥)
    × (MayGoElsewhere c cpu events pattern → ⊥)

-- the same as a function of the first step that stands against it, and of what is known
abbrev pub again_by : Option ℕ → Bool → Bool → Bool → Again
again_by (Some k) other_table begins other_class = NoStep k
again_by None other_table begins other_class =
    if other_table then NoTable else if begins && other_class then NoTarget else Yes
