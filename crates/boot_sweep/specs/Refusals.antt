-- Why a session is not swept: the first of five reasons.
use Rattle.std.specs.Prelude.{◌≡◌, ◌≢◌, ◌⊎◌, ℕ, suc, ◌+◌, ◌*◌, ◌/◌, ◌<◌, ◌≤◌, ◌==◌, ◌&&◌, not, nat_lt, Bool, true, false, if◌then◌else◌, is_none, is_some, option_map, List, [], ◌∷◌, ◌++◌, length, slice_get, take, Option, Some, None, Result, Ok, Err}
use Rattle.std.specs.List.{list_any}
use Rattle.std.specs.Option.{option_or}
use Rattle.pico_board.specs.declared.Step.{Step}
use Rattle.pico_board.specs.declared.step.Step.TheVariants.{Erase, Program, Raise}
use Rattle.pico_board.specs.declared.boot.Cpu.{Cpu}
use Rattle.pico_board.specs.declared.boot.BootKind.TheVariants.{Normal}
use Rattle.pico_board.specs.declared.window.Window.{Window}
use Rattle.pico_board.specs.Windows.{is_same_window}
use Rattle.pico_board.specs.Content.{Content}
use Rattle.pico_board.specs.Sessions.{Confined, Gated, IsConfined}
use Rattle.pico_board.specs.Steps.{after_all}
use Rattle.slot_choice.specs.declared.choice.Choice.{Choice}
use Rattle.boot_rules.specs.declared.decision.Decision.{Decision}
use Rattle.boot_rules.specs.declared.decision.Decision.TheVariants.{Start, Bootsel}
use Rattle.boot_rules.specs.declared.tables.Found.{Found}
use Rattle.boot_rules.specs.Choosing.{decision_in}
use Rattle.boot_rules.specs.Chosen.{Chosen}
use Rattle.boot_rules.specs.Tables.{table_in}
use Rattle.boot_sweep.specs.declared.error.SweepError.{SweepError}
use Rattle.boot_sweep.specs.declared.error.SweepError.TheVariants.{NotConfined, NotGated, TooManySteps, FormerInSlot, Memory, TableChanged}
use Rattle.boot_session.specs.Recordings.{kept_steps, step_limit}
use Rattle.boot_session.specs.Slots.{IsSlot, outside_from, session_slot}

-- step k is the first one that does not lie in the window
pub record IsFirstOutside (steps : List Step) (w : Window) (k : ℕ) : Type 0 where
  pub step : Step
  pub stands : slice_get steps k ≡ Some step
  pub outside : IsConfined w step → ⊥
  pub before : Confined (take k steps) w

-- step k is the first one that does not lie in the slot; where there is no slot, it is step 0
abbrev pub LeavesSlot : Content → Cpu → List Step → ℕ → Type 0
LeavesSlot c cpu steps k =
    ((w : Window) × IsSlot c cpu steps w × IsFirstOutside steps w k)
    ⊎ ((steps ≢ []) × ((w : Window) → IsSlot c cpu steps w → ⊥) × (k ≡ 0))

-- step k is the first one up to which the steps begin no gated list
pub record IsFirstUngated (steps : List Step) (w : Window) (k : ℕ) : Type 0 where
  pub inside : k < length steps
  pub before : Gated (take k steps) w
  pub ungated : Gated (take (suc k) steps) w → ⊥

-- the session keeps to its slot
pub record KeepsToSlot (c : Content) (cpu : Cpu) (steps : List Step) (w : Window) : Type 0 where
  pub slot : IsSlot c cpu steps w
  pub confined : Confined steps w

-- the session writes its slot's first sector last, and is not too long
pub record IsGatedSession (c : Content) (cpu : Cpu) (steps : List Step) (w : Window)
    : Type 0 where
  pub slot : IsSlot c cpu steps w
  pub gated : Gated steps w
  pub few : length steps ≤ step_limit

-- a normal boot starts an image of the window
abbrev pub StartsIn : Content → Cpu → Window → Type 0
StartsIn c cpu w =
    (choice : Choice) × Chosen c cpu Normal (Start choice) × (choice.image.window ≡ w)

-- The session is refused for this reason. It leaves its slot; or a step among those that may be
-- swept makes it ungated; or it has too many steps. Or a normal boot before it starts an image of
-- the slot; or the flash has another table after it.
abbrev pub IsRefusedSession : Content → Cpu → List Step → SweepError → Type 0
IsRefusedSession c cpu steps (NotConfined k) = LeavesSlot c cpu steps k
IsRefusedSession c cpu steps (NotGated k) =
    (w : Window) × KeepsToSlot c cpu steps w × IsFirstUngated steps w k × (k < step_limit)
IsRefusedSession c cpu steps TooManySteps =
    (w : Window) × KeepsToSlot c cpu steps w × Gated (kept_steps steps) w
    × (step_limit < length steps)
IsRefusedSession c cpu steps FormerInSlot =
    (w : Window) × IsGatedSession c cpu steps w × StartsIn c cpu w
IsRefusedSession c cpu steps Memory = ⊥
IsRefusedSession c cpu steps TableChanged =
    (w : Window) × IsGatedSession c cpu steps w × (StartsIn c cpu w → ⊥)
    × (table_in (after_all c steps) ≢ table_in c)

-- the list of pages is empty
abbrev pub has_none : List ℕ → Bool
has_none [] = true
has_none (page ∷ pages) = false

-- the step may follow in a gated list of a window whose first sector is s, where these pages of it
-- are programmed. Steps elsewhere stand before its programs, and each of its pages is programmed
-- once.
abbrev pub may_follow : ℕ → List ℕ → Step → Bool
may_follow s pages (Erase t) = has_none pages && not (t == s)
may_follow s pages (Program p d) =
    if p / 16 == s then not (list_any (λ page. page == p) pages) else has_none pages
may_follow s pages (Raise r b) = false

-- the pages of sector s that are programmed behind the step
abbrev pub pages_behind : ℕ → List ℕ → Step → List ℕ
pages_behind s pages (Erase t) = pages
pages_behind s pages (Program p d) = if p / 16 == s then pages ++ p ∷ [] else pages
pages_behind s pages (Raise r b) = pages

-- the first of the steps behind the erase of sector s that may not follow, by its number; the first
-- one's is k
abbrev pub ungated_behind : ℕ → List ℕ → ℕ → List Step → Option ℕ
ungated_behind s pages k [] = None
ungated_behind s pages k (step ∷ steps) =
    if may_follow s pages step then ungated_behind s (pages_behind s pages step) (k + 1) steps
    else Some k

-- the step is the erase of the window's first sector
abbrev pub begins_gated : Window → Step → Bool
begins_gated w (Erase s) = 4096 * s == w.start
begins_gated w (Program p d) = false
begins_gated w (Raise r b) = false

-- the first step up to which the steps, which lie in the window, begin no gated list
abbrev pub ungated_in : Window → List Step → Option ℕ
ungated_in w [] = None
ungated_in w (step ∷ steps) =
    if begins_gated w step then ungated_behind (w.start / 4096) [] 1 steps else Some 0

abbrev pub ungated : Option Window → List Step → Option ℕ
ungated None steps = None
ungated (Some w) steps = ungated_in w steps

-- the decision is a start in the slot, where there is one
abbrev pub is_start_in : Window → Decision → Bool
is_start_in w (Start choice) = is_same_window choice.image.window w
is_start_in w (Bootsel fall) = false

abbrev pub starts_in_slot : Option Window → Decision → Bool
starts_in_slot None d = false
starts_in_slot (Some w) d = is_start_in w d

-- a flash without a table has one afterwards; a table that was there stays, by the law on sessions
-- that keep to one slot
abbrev pub gains_table : Option Found → Option Found → Bool
gains_table before after = is_none before && is_some after

-- the reason, where it holds
abbrev pub where_ : Bool → SweepError → Option SweepError
where_ holds reason = if holds then Some reason else None

-- why the session is not swept, as a function
unfoldable pub sweep_refusal : Content → Cpu → List Step → Option SweepError
sweep_refusal c cpu steps =
    let slot = session_slot c cpu steps in
    option_or (option_map NotConfined (outside_from 0 slot steps))
    (option_or (option_map NotGated (ungated slot (kept_steps steps)))
    (option_or (where_ (nat_lt step_limit (length steps)) TooManySteps)
    (option_or (where_ (starts_in_slot slot (decision_in c cpu Normal)) FormerInSlot)
    (where_ (gains_table (table_in c) (table_in (after_all c steps))) TableChanged))))

-- an answer is no refusal, or is this one; or there was no memory
abbrev pub IsSwept : {T : Type 0} → Option SweepError → Result T SweepError → Type 0
IsSwept why (Ok done) = why ≡ None
IsSwept why (Err e) = (e ≡ Memory) ⊎ (why ≡ Some e)
