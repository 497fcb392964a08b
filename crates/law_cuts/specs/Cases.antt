-- Scripts of which a sweep refuses nothing, gated scripts, and the cuts of their traces.
use Rattle.std.specs.Prelude.{◌≡◌, ⊤, ℕ, true, List, slice_get, Some}
use Rattle.pico_board.specs.declared.boot.Cpu.{Cpu}
use Rattle.pico_board.specs.declared.window.Window.{Window}
use Rattle.pico_board.specs.Content.{Content, IsContent}
use Rattle.pico_board.specs.Sessions.{Gated, Unfinished}
use Rattle.boot_rules.specs.AccidentalImages.{HasNoAccidentalImage}
use Rattle.boot_script.specs.Events.{EventView}
use Rattle.boot_session.specs.Sessions.{session}
use Rattle.boot_sweep.specs.declared.error.SweepError.{SweepError}
use Rattle.boot_sweep.specs.declared.results.CutResult.{CutResult}
use Rattle.boot_sweep.specs.declared.results.CutResult.TheVariants.{Former, Finished, Chance}
use Rattle.boot_sweep.specs.Refusals.{IsRefusedSession}
use Rattle.cut_class.specs.declared.class.Class.{Class}
use Rattle.cut_class.specs.declared.class.Class.TheVariants as classes
use Rattle.boot_cuts.specs.Classes.{IsClass}
use Rattle.boot_cuts.specs.Contents.{cut_contents}
use Rattle.boot_tape.specs.Traces.{trace, trace_steps}
use Rattle.check_laws.specs.SessionLaws.{Holds}
use Rattle.law_cuts.specs.Sessions.{is_one_session}

-- the script is one session of a host, whose boots write nothing, and a sweep refuses it for no
-- reason
pub record IsSweptScript (c : Content) (cpu : Cpu) (events : List EventView) : Type 0 where
  pub right : IsContent c
  pub one : is_one_session c cpu events ≡ true
  pub swept : (why : SweepError) → IsRefusedSession c cpu (session c cpu events) why → ⊥

-- the class is neither `former` nor `finished`
abbrev pub IsOther : Class → Type 0
IsOther classes.Former = ⊥
IsOther classes.Finished = ⊥
IsOther classes.Whole = ⊤
IsOther classes.Tail = ⊤
IsOther classes.Mixed = ⊤
IsOther classes.Bootsel = ⊤

-- the event is no Cut
abbrev pub ArmsNoCut : EventView → Type 0
ArmsNoCut (EventView.Cut left within pattern) = ⊥
ArmsNoCut event = ⊤

-- the class is `former`, `finished` or `bootsel`
abbrev pub IsWholeOrNone : Class → Type 0
IsWholeOrNone classes.Former = ⊤
IsWholeOrNone classes.Finished = ⊤
IsWholeOrNone classes.Whole = ⊥
IsWholeOrNone classes.Tail = ⊥
IsWholeOrNone classes.Mixed = ⊥
IsWholeOrNone classes.Bootsel = ⊤

-- the class is one of a cut of which a sweep tells this result
abbrev pub IsClassFor : CutResult → Class → Type 0
IsClassFor Former class = class ≡ classes.Former
IsClassFor Finished class = class ≡ classes.Finished
IsClassFor Chance class = IsOther class

-- the cut of this number of a script leaves some content, and its class is one for this result
pub record HasClassFor (c : Content) (cpu : Cpu) (events : List EventView) (pattern : List ℕ)
    (n : ℕ) (result : CutResult) : Type 0 where
  pub content : Content
  pub stands : slice_get (cut_contents pattern (trace c cpu events).done) n ≡ Some content
  pub class : Class
  pub class_is : IsClass c (trace c cpu events).last (trace c cpu events).moves content cpu class
  pub told : IsClassFor result class

-- the class of what the script leaves is one for this result
pub record EndsFor (c : Content) (cpu : Cpu) (events : List EventView) (result : CutResult)
    : Type 0 where
  pub class : Class
  pub class_is : IsClass c (trace c cpu events).last (trace c cpu events).moves
      (trace c cpu events).last cpu class
  pub told : IsClassFor result class

-- the script is one session of a host, whose boots write nothing. Its steps keep to the slot w,
-- where a normal boot on c starts no image, are gated on it, and leave the table that there was. No
-- premise is on accidental images.
pub record IsGatedScript (c : Content) (cpu : Cpu) (events : List EventView) (w : Window)
    : Type 0 where
  pub right : IsContent c
  pub session : is_one_session c cpu events ≡ true
  pub holds : Holds c cpu (trace_steps (trace c cpu events).done) w
  pub gated : Gated (trace_steps (trace c cpu events).done) w

-- a cut left the unfinished content d, and that has another table, or an accidental image in the
-- slot
pub record IsAccident (c : Content) (cpu : Cpu) (events : List EventView) (w : Window)
    (d : Content) : Type 0 where
  pub unfinished : Unfinished c (trace_steps (trace c cpu events).done) w d
  pub accident : HasNoAccidentalImage c (trace c cpu events).last d w cpu → ⊥
