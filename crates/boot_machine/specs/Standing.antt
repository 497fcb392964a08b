-- What the parts of a machine stand for, and what holds of them between events.
use Rattle.std.specs.Prelude.{◌≡◌, ◌≢◌, ◌⊎◌, ⊤, ℕ, ◌/◌, ◌^◌, ◌<◌, Result, IfOk, OnOk, OnErr, is_ok, Bool, true, false, IsTrue, List, [], length, ◌≤◌, slice_get, Option, Some, None}
use Rattle.std.specs.Option.{ForSome}
use Rattle.std.specs.Bool.{OnTrue, OnFalse}
use Rattle.pico_board.specs.declared.Step.{Step}
use Rattle.pico_board.specs.declared.boot.Cpu.{Cpu}
use Rattle.pico_board.specs.declared.boot.BootKind.{BootKind}
use Rattle.pico_board.specs.Content.{Content}
use Rattle.pico_board.specs.declared.board.PowerLost.{PowerLost as Lost}
use Rattle.uf2_place.specs.declared.answer.Accepted.{Accepted}
use Rattle.uf2_place.specs.declared.answer.Accepted.TheVariants.{Skipped, Again, Taken, Done}
use Rattle.pico_board.specs.Board.{State as BoardState, DoesAll, Rose}
use Rattle.pico_board.specs.Histories.{Extends}
use Rattle.sector_pool.specs.Keeping.{HandsOver}
use Rattle.sector_pool.specs.Pool.{Pool}
use Rattle.part_table.specs.Sound.{IsSoundTable}
use Rattle.uf2_place.specs.Accepting.{DownloadView, StandsFor}
use Rattle.uf2_place.specs.Downloads.{IsOut, IsTargetIn, lease_of}
use Rattle.image_check.specs.Valid.{Valid}
use Rattle.image_def.specs.declared.started.Started.{Started}
use Rattle.slot_choice.specs.declared.choice.Choice.{Choice}
use Rattle.trial_buy.specs.Windows.{IsPlacedChoice}
use Rattle.boot_rules.specs.declared.tables.Found.{Found}
use Rattle.boot_script.specs.Events.{EventView}
use Rattle.text_lines.specs.Events.{outcome_text}
use Rattle.text_lines.specs.declared.outcome.EventOutcome.{EventOutcome}
use Rattle.text_lines.specs.declared.outcome.EventOutcome.TheVariants.{PowerLost}
use Rattle.boot_machine.specs.declared.served.Served.{Served}
use Rattle.boot_machine.specs.declared.state.State.{State}
use Rattle.boot_machine.specs.declared.state.State.TheVariants as states
use Rattle.boot_machine.specs.declared.state.Membership.{Membership}
use Rattle.boot_machine.specs.declared.parts.Parts.{Parts}
use Rattle.boot_machine.specs.Machines.{MachineView, Host, Placing, StateView, Off, InBootsel, Running, FromFlash, FromRam}
use Rattle.ram_start.specs.Sram.{zero_ram}
use Rattle.boot_machine.specs.Boots.{Effect}
use Rattle.boot_machine.specs.Moves.{Moves, effect, effect_in}
use Rattle.boot_machine.specs.Serving.{ServedEvent, before_boot}

-- a choice that runs: its windows are placed, and a trial image is still valid in its window, so
-- that it can buy itself
pub record IsHeldChoice (c : Content) (cpu : Cpu) (choice : Choice) : Type 0 where
  pub placed : IsPlacedChoice c choice
  pub trial : choice.image.trial ≡ true → Valid c choice.image.window cpu true choice.image

-- a sector of the pool is free, or it is the download's
abbrev pub IsMine : Pool → Option ℕ → ℕ → Type 0
IsMine pool lease k = (slice_get pool.out k ≡ Some false) ⊎ (lease ≡ Some k)

-- the download's lease, where it holds one, is out, and two sectors are free or the download's
pub record HasRoom (pool : Pool) (lease : Option ℕ) : Type 0 where
  pub out : IsOut pool lease
  pub first : ℕ
  pub second : ℕ
  pub distinct : first ≢ second
  pub one : IsMine pool lease first
  pub two : IsMine pool lease second

abbrev pub is_on : State → Bool
is_on states.Off = false
is_on states.Bootsel = true
is_on (states.Running image) = true

abbrev pub is_bootsel : State → Bool
is_bootsel states.Off = false
is_bootsel states.Bootsel = true
is_bootsel (states.Running image) = false

abbrev pub is_running : State → Bool
is_running states.Off = false
is_running states.Bootsel = false
is_running (states.Running image) = true

-- where a choice stands in its unit
abbrev pub membership_of : Choice → Membership
membership_of choice =
    record { member = choice.member; other = choice.other; updated = choice.updated }

-- the download stands for the placing, or there is none
abbrev pub Carries : DownloadView → Pool → Option Placing → Type 0
Carries d pool None = d.current ≡ None
Carries d pool (Some placing) = StandsFor d pool placing.target placing.blocks

module _ {B : Type 0} where
  -- the parts of a machine in BOOTSEL
  pub record IsHost (p : Parts B) (host : Host) : Type 0 where
    pub state : p.state ≡ states.Bootsel
    pub found : host.found ≡ p.found
    pub placing : Carries p.download p.pool host.placing
    pub ram : host.ram ≡ p.ram

  -- the parts of a machine that runs an image
  pub record IsRunning (p : Parts B) (image : Started) (from : Option Membership) : Type 0 where
    pub state : p.state ≡ states.Running image
    pub membership : p.membership ≡ from

  abbrev pub StandsAt : Parts B → StateView → Type 0
  StandsAt p Off = p.state ≡ states.Off
  StandsAt p (InBootsel host) = IsHost p host
  StandsAt p (Running (FromFlash choice)) = IsRunning p choice.image (Some (membership_of choice))
  StandsAt p (Running (FromRam image)) = IsRunning p image None

  -- the parts as they are once this choice runs
  abbrev pub running : Parts B → Choice → Parts B
  running p choice = record {
    board = p.board;
    pool = p.pool;
    download = p.download;
    ram = p.ram;
    cpu = p.cpu;
    state = states.Running choice.image;
    membership = Some (membership_of choice);
    found = p.found;
  }

  -- the parts as they are once BOOTSEL is entered with this table
  abbrev pub hosting : Parts B → Option Found → Parts B
  hosting p found = record {
    board = p.board;
    pool = p.pool;
    download = p.download;
    ram = zero_ram;
    cpu = p.cpu;
    state = states.Bootsel;
    membership = None;
    found = found;
  }

  -- the parts of a machine once it has no power
  abbrev pub powerless : Parts B → Parts B
  powerless p = record {
    board = p.board;
    pool = p.pool;
    download = p.download;
    ram = p.ram;
    cpu = p.cpu;
    state = states.Off;
    membership = p.membership;
    found = p.found;
  }

  -- the parts with another download and another pool
  abbrev pub with_download : Parts B → DownloadView → Pool → Parts B
  with_download p download pool = record {
    board = p.board;
    pool = pool;
    download = download;
    ram = p.ram;
    cpu = p.cpu;
    state = p.state;
    membership = p.membership;
    found = p.found;
  }

  -- no download is current, its sector is free again, and all else is as before
  pub record IsDropped (old new : Parts B) : Type 0 where
    pub same : new ≡ with_download old new.download new.pool
    pub none : new.download.current ≡ None
    pub back : HandsOver (lease_of old.download.current) None old.pool new.pool
    pub room : HasRoom new.pool None

  -- what is left without power: no download is current, and all its sectors are free again
  pub record IsLeft (old new : Parts B) : Type 0 where
    pub board : new.board ≡ old.board
    pub cpu : new.cpu ≡ old.cpu
    pub off : new.state ≡ states.Off
    pub none : new.download.current ≡ None
    pub room : HasRoom new.pool None

  -- an image in RAM runs, and no download is current
  pub record IsRamStart (old : Parts B) (image : Started) (new : Parts B) : Type 0 where
    pub board : new.board ≡ old.board
    pub cpu : new.cpu ≡ old.cpu
    pub runs : IsRunning new image None
    pub none : new.download.current ≡ None
    pub room : HasRoom new.pool None

  module _ (state : B → BoardState) where
    -- the parts stand for the machine
    pub record Stands (p : Parts B) (m : MachineView) : Type 0 where
      pub content : m.content ≡ (state p.board).content
      pub armed : m.armed ≡ (state p.board).armed
      pub cpu : m.cpu ≡ p.cpu
      pub place : StandsAt p m.place

    -- what holds of the parts between events
    pub record IsSteady (p : Parts B) : Type 0 where
      pub power : is_on p.state ≡ true → IsTrue (state p.board).powered
      pub room : HasRoom p.pool (lease_of p.download.current)
      pub target : ForSome p.download.current
          (λ c. IsTargetIn (length (state p.board).content.flash) c.target)
      pub carries : (placing : Option Placing) × Carries p.download p.pool placing
      pub idle : is_bootsel p.state ≡ false → p.download.current ≡ None
      pub found : is_bootsel p.state ≡ true → ForSome p.found
          (λ f. IsSoundTable f.table (length (state p.board).content.flash / 4096))
      pub held : (choice : Choice) → IsRunning p choice.image (Some (membership_of choice))
          → IsHeldChoice (state p.board).content p.cpu choice

    module _ (history : B → List Step → Type 0) where
      -- the parts did what an effect says, or power was lost in its steps, with this outcome
      pub record IsBy (old : Parts B) (e : Effect) (ok : Bool) (new : Parts B)
          (outcome : EventOutcome) : Type 0 where
        pub board : DoesAll state history old.board e.steps ok new.board
        pub cpu : new.cpu ≡ old.cpu
        pub place : OnTrue ok (StandsAt new e.place)
        pub told : OnTrue ok (outcome ≡ e.outcome)
        pub off : OnFalse ok (new.state ≡ states.Off)
        pub lost : OnFalse ok (outcome ≡ PowerLost)

      -- the parts did what an effect says, or power was lost in its steps, with this outcome,
      -- whichever it was
      abbrev pub Comes : Parts B → Effect → Parts B → EventOutcome → Type 0
      Comes old e new outcome = (ok : Bool) × IsBy old e ok new outcome

      -- what an event does before the boot that it asks for was done, and that boot is answered. Or
      -- power was lost, and no boot is asked for
      pub record IsServed (old : Parts B) (s : ServedEvent) (answer : Option BootKind)
          (new : Parts B) (outcome : EventOutcome) : Type 0 where
        pub ok : Bool
        pub by : IsBy old (before_boot s) ok new outcome
        pub asked : OnTrue ok (answer ≡ s.boot)
        pub silent : OnFalse ok (answer ≡ None)

      -- what is served, for each machine that the parts stand for
      abbrev pub Serves : Parts B → (Content → Cpu → Host → ServedEvent) → Option BootKind → Parts B
          → EventOutcome → Type 0
      Serves old s answer new outcome = (host : Host) → IsHost old host
          → IsServed old (s (state old.board).content old.cpu host) answer new outcome

      -- nothing is done, and the outcome is told
      pub record IsIdle (old : Parts B) (e : Effect) (new : Parts B) (outcome : EventOutcome)
          : Type 0 where
        pub same : new ≡ old
        pub none : e.steps ≡ []
        pub place : StandsAt new e.place
        pub told : outcome ≡ e.outcome

      -- an event in a state, for each machine that the parts stand for
      abbrev pub Advances : Parts B → EventView → Parts B → EventOutcome → Type 0
      Advances old event new outcome = (m : MachineView) → Stands old m
          → IsIdle old (effect_in m.content m.cpu m.place event) new outcome
          ⊎ Comes old (effect_in m.content m.cpu m.place event) new outcome

    -- power was lost: the board is not powered, and the count of cuts rose
    pub record IsLostIn (old new : Parts B) : Type 0 where
      pub off : new.state ≡ states.Off
      pub power : (state new.board).powered ≡ false
      pub rose : Rose (state old.board).cuts (state new.board).cuts

    -- The event takes m to a machine that the parts then stand for, with this outcome. The count of
    -- cuts never falls. The event's steps are appended to the history, but where power was lost; the
    -- outcome says so only where it was.
    pub record IsStep (history : B → List Step → Type 0) (old : Parts B) (m : MachineView)
        (event : EventView) (new : Parts B) (outcome : EventOutcome) : Type 0 where
      pub next : MachineView
      pub moves : Moves m event next outcome
      pub stands : Stands new next
      pub later : (state old.board).cuts ≤ (state new.board).cuts
      pub recorded : outcome ≢ PowerLost
          → Extends history old.board (effect m event).steps new.board
      pub lost : outcome ≡ PowerLost → IsLostIn old new

    -- a step, with the line of its outcome
    pub record IsToldStep (history : B → List Step → Type 0) (old : Parts B) (m : MachineView)
        (event : EventView) (new : Parts B) (line : List ℕ) : Type 0 where
      pub outcome : EventOutcome
      pub step : IsStep history old m event new outcome
      pub told : line ≡ outcome_text outcome

    -- what is served, with the line of its outcome
    pub record IsToldService (history : B → List Step → Type 0) (old : Parts B)
        (s : Content → Cpu → Host → ServedEvent) (answer : Option BootKind) (new : Parts B)
        (line : List ℕ) : Type 0 where
      pub outcome : EventOutcome
      pub serves : Serves history old s answer new outcome
      pub told : line ≡ outcome_text outcome

-- the download that a place has
abbrev pub placing_at : StateView → Option Placing
placing_at Off = None
placing_at (InBootsel host) = host.placing
placing_at (Running program) = None

-- the target of a download that is done starts within a flash
abbrev pub IsDoneIn : Accepted → Type 0
IsDoneIn Skipped = ⊤
IsDoneIn Again = ⊤
IsDoneIn Taken = ⊤
IsDoneIn (Done target) = target.window.start < 2 ^ 24

-- A block was served. The board did its steps, whole or until power was lost in them. Then its
-- outcome is answered with the boot that it asks for, and the download stands for the new list. No
-- download is current where power was lost.
pub record IsServedBlock {B : Type 0} (state : B → BoardState) (history : B → List Step → Type 0)
    (s : ServedEvent) (old : B) (answer : Result Served Lost) (new : B) (d : DownloadView)
    (pool : Pool) : Type 0 where
  pub steps : DoesAll state history old s.steps (is_ok answer) new
  pub boot : IfOk answer (λ served. served.boot ≡ s.boot)
  pub told : IfOk answer (λ served. served.outcome ≡ s.outcome)
  pub carries : OnOk answer (Carries d pool (placing_at s.place))
  pub lost : OnErr answer (d.current ≡ None)
