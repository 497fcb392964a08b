-- Which law speaks of each loss of power in the writes of a script's boots, and of its buys.
use Rattle.std.specs.Prelude.{◌≡◌, ◌≢◌, ◌⊎◌, ◌&&◌, ◌||◌, Bool, true, false, is_some, List, [], ◌∷◌, ◌++◌, None, drop, length}
use Rattle.std.specs.List.{All, AllByRecursion, Any, list_all}
use Rattle.pico_board.specs.declared.Step.{Step}
use Rattle.pico_board.specs.declared.step.Step.TheVariants.{Erase, Program, Raise}
use Rattle.pico_board.specs.declared.boot.Cpu.{Cpu}
use Rattle.pico_board.specs.declared.boot.BootKind.{BootKind}
use Rattle.pico_board.specs.declared.boot.BootKind.TheVariants.{Normal}
use Rattle.pico_board.specs.Content.{Content}
use Rattle.pico_board.specs.Steps.{IsRaise}
use Rattle.slot_choice.specs.declared.choice.Choice.{Choice}
use Rattle.boot_rules.specs.declared.decision.Decision.{Decision}
use Rattle.boot_rules.specs.declared.decision.Decision.TheVariants.{Start, Bootsel}
use Rattle.image_def.specs.declared.started.Started.{Started}
use Rattle.boot_sweep.specs.Comparing.{is_same_started}
use Rattle.boot_rules.specs.Choosing.{decision_in}
use Rattle.boot_rules.specs.Chosen.{Chosen}
use Rattle.boot_rules.specs.Tables.{table_in}
use Rattle.boot_script.specs.Events.{EventView}
use Rattle.boot_machine.specs.Machines.{MachineView, StateView, Running, FromFlash}
use Rattle.boot_machine.specs.Plays.{moved_machine, powerless}
use Rattle.boot_tape.specs.declared.notes.Behind.{Behind}
use Rattle.boot_tape.specs.declared.notes.Behind.TheVariants as behinds
use Rattle.boot_tape.specs.Moving.{after_moves, done_steps}
use Rattle.boot_tape.specs.Traces.{behind, event_moves, own_moves}
use Rattle.check_require.specs.declared.report.LawOfWrites.{LawOfWrites}
use Rattle.check_require.specs.declared.report.LawOfWrites.TheVariants as laws
use Rattle.check_laws.specs.Triples.{AreTriplesApart, keeps_units}

-- a boot of a script, or a buy: the content before it, and the steps that it completes
pub record BootMade : Type 0 where
  pub before : Content
  pub kind : BootKind
  pub done : List Step

pub record BuyMade : Type 0 where
  pub before : Content
  pub choice : Choice
  pub done : List Step

-- the boot starts the image that a normal boot would start, and raises rows alone
pub record StartsTheSame (cpu : Cpu) (b : BootMade) : Type 0 where
  pub choice : Choice
  pub chosen : Chosen b.before cpu b.kind (Start choice)
  pub normal : Choice
  pub would : Chosen b.before cpu Normal (Start normal)
  pub same : normal.image ≡ choice.image
  pub raises : AllByRecursion IsRaise b.done

-- there is a table, and no image of another boot unit lists a row whose triple shares a row with
-- one that the boot raises
pub record RaisesItsOwn (cpu : Cpu) (b : BootMade) : Type 0 where
  pub choice : Choice
  pub chosen : Chosen b.before cpu b.kind (Start choice)
  pub table : table_in b.before ≢ None
  pub apart : AreTriplesApart b.before cpu choice.image b.done

abbrev pub IsBootKept : Cpu → BootMade → Type 0
IsBootKept cpu b = StartsTheSame cpu b ⊎ RaisesItsOwn cpu b

-- there is a table, and no image of another boot unit lists a row whose triple shares a row with
-- one that the buy raises
pub record IsBuyKept (cpu : Cpu) (b : BuyMade) : Type 0 where
  pub table : table_in b.before ≢ None
  pub apart : AreTriplesApart b.before cpu b.choice.image b.done

-- the content before what is behind an event's own moves, and the steps that this completes
abbrev pub content_behind : MachineView → EventView → Content
content_behind m event = after_moves m.content (own_moves m event)

abbrev pub steps_behind : MachineView → EventView → List Step
steps_behind m event = done_steps (drop (length (own_moves m event)) (event_moves m event))

-- the boot of an event: power comes back, or a reset or a host's event asks for it
abbrev pub boot_by : Behind → Content → List Step → List BootMade
boot_by behinds.Nothing before done = []
boot_by (behinds.Boot kind) before done =
    record { before = before; kind = kind; done = done } ∷ []
boot_by (behinds.Buy image) before done = []

-- the buy of an event: an image that was started from flash buys itself
abbrev pub buy_by : StateView → EventView → Content → List Step → List BuyMade
buy_by (Running (FromFlash choice)) EventView.Buy before done =
    record { before = before; choice = choice; done = done } ∷ []
buy_by place event before done = []

-- the boots that a machine makes in events, and the buys, one after another
abbrev pub boots_in : MachineView → List EventView → List BootMade
boots_in m [] = []
boots_in m (event ∷ events) =
    boot_by (behind m event) (content_behind m event) (steps_behind m event)
    ++ boots_in (moved_machine m event).next events

abbrev pub buys_in : MachineView → List EventView → List BuyMade
buys_in m [] = []
buys_in m (event ∷ events) =
    buy_by m.place event (content_behind m event) (steps_behind m event)
    ++ buys_in (moved_machine m event).next events

-- Which law speaks of writes: none where none of them does a step; kept where some does, and each
-- that does is kept; open where one that does is not kept.
abbrev pub IsLawOf : {A : Type 0} → (A → List Step) → (A → Type 0) → List A → LawOfWrites → Type 0
IsLawOf done kept writes laws.Silent = All (λ w. done w ≡ []) writes
IsLawOf done kept writes laws.Kept =
    Any (λ w. done w ≢ []) writes × All (λ w. done w ≢ [] → kept w) writes
IsLawOf done kept writes laws.Open = Any (λ w. (done w ≢ []) × (kept w → ⊥)) writes

-- the law of the boots of a script, and of its buys
abbrev pub IsBootLaw : Content → Cpu → List EventView → LawOfWrites → Type 0
IsBootLaw c cpu events law =
    IsLawOf (λ (b : BootMade). b.done) (IsBootKept cpu) (boots_in (powerless c cpu) events) law

abbrev pub IsBuyLaw : Content → Cpu → List EventView → LawOfWrites → Type 0
IsBuyLaw c cpu events law =
    IsLawOf (λ (b : BuyMade). b.done) (IsBuyKept cpu) (buys_in (powerless c cpu) events) law

-- the decision starts this image, as a function
abbrev pub starts_image : Decision → Started → Bool
starts_image (Start choice) image = is_same_started choice.image image
starts_image (Bootsel fall) image = false

abbrev pub is_raise : Step → Bool
is_raise (Raise r b) = true
is_raise (Erase s) = false
is_raise (Program p d) = false

-- there is a table, and the steps of the image raise no row of another unit's triple
abbrev pub raises_own : Content → Cpu → Started → List Step → Bool
raises_own c cpu image done = is_some (table_in c) && keeps_units c cpu image done

-- a boot that decides so is kept, where a normal boot decides so
abbrev pub boot_kept_by : Content → Cpu → List Step → Decision → Decision → Bool
boot_kept_by c cpu done (Start choice) normal =
    (starts_image normal choice.image && list_all is_raise done)
    || raises_own c cpu choice.image done
boot_kept_by c cpu done (Bootsel fall) normal = false

abbrev pub boot_kept : Content → Cpu → BootKind → List Step → Bool
boot_kept c cpu kind done =
    boot_kept_by c cpu done (decision_in c cpu kind) (decision_in c cpu Normal)
