-- Which law speaks of each loss of power in the session of a host's script.
use Rattle.std.specs.Prelude.{◌≡◌, ◌≢◌, ◌⊎◌, List, None}
use Rattle.pico_board.specs.declared.Step.{Step}
use Rattle.pico_board.specs.declared.boot.Cpu.{Cpu}
use Rattle.pico_board.specs.declared.window.Window.{Window}
use Rattle.pico_board.specs.Content.{Content}
use Rattle.pico_board.specs.Sessions.{Gated}
use Rattle.pico_board.specs.Steps.{after_all}
use Rattle.boot_rules.specs.Tables.{table_in}
use Rattle.boot_script.specs.Events.{EventView}
use Rattle.boot_session.specs.Sessions.{session}
use Rattle.boot_sweep.specs.Refusals.{KeepsToSlot, StartsIn}
use Rattle.check_laws.specs.declared.found.Reason.{Reason}
use Rattle.check_laws.specs.declared.found.Reason.TheVariants as reasons
use Rattle.check_laws.specs.declared.found.SessionFound.{SessionFound}
use Rattle.check_laws.specs.declared.found.SessionFound.TheVariants as found
use Rattle.check_laws.specs.Hosts.{HostWrites, IsHosts, first_content}
use Rattle.check_laws.specs.Staged.{Staged}

-- the steps keep to w, of which a normal boot before them starts no image, and leave the table
pub record Holds (c : Content) (cpu : Cpu) (steps : List Step) (w : Window) : Type 0 where
  pub keeps : KeepsToSlot c cpu steps w
  pub elsewhere : StartsIn c cpu w → ⊥
  pub table : table_in (after_all c steps) ≡ table_in c

-- why no law speaks of the steps: the first of these that holds
abbrev pub IsReason : Content → Cpu → List Step → Reason → Type 0
IsReason c cpu steps reasons.Script = ⊥
IsReason c cpu steps reasons.Windows = (w : Window) → KeepsToSlot c cpu steps w → ⊥
IsReason c cpu steps reasons.Running = (w : Window) × KeepsToSlot c cpu steps w × StartsIn c cpu w
IsReason c cpu steps reasons.Table =
    (w : Window) × KeepsToSlot c cpu steps w × (StartsIn c cpu w → ⊥)
    × (table_in (after_all c steps) ≢ table_in c)
IsReason c cpu steps reasons.Order =
    (w : Window) × Holds c cpu steps w × (table_in c ≡ None)
    × (Staged c steps w cpu → ⊥) × (Gated steps w → ⊥)

-- the law of the steps of a host from the content c on
abbrev pub IsStepsLaw : Content → Cpu → List Step → SessionFound → Type 0
IsStepsLaw c cpu steps found.Silent = ⊥
IsStepsLaw c cpu steps (found.Staged w) = Holds c cpu steps w × Staged c steps w cpu
IsStepsLaw c cpu steps (found.Gated w) =
    Holds c cpu steps w × Gated steps w × (Staged c steps w cpu → ⊥)
IsStepsLaw c cpu steps (found.Confined w) =
    Holds c cpu steps w × (table_in c ≢ None) × (Gated steps w → ⊥) × (Staged c steps w cpu → ⊥)
IsStepsLaw c cpu steps (found.Open reason) = IsReason c cpu steps reason

-- S: the steps of the Command and Uf2 events of a host's script
abbrev pub host_steps : Content → Cpu → List EventView → List Step
host_steps c cpu events = session (first_content c cpu) cpu events

-- the law of a script in which a host writes: that of its steps, where the script is a host's
abbrev pub IsWritten : Content → Cpu → List EventView → SessionFound → Type 0
IsWritten c cpu events law =
    ((IsHosts c cpu events → ⊥) × (law ≡ found.Open reasons.Script))
    ⊎ (IsHosts c cpu events × IsStepsLaw (first_content c cpu) cpu (host_steps c cpu events) law)

-- the law of a script's session: none where no Command or Uf2 event writes
abbrev pub IsSessionLaw : Content → Cpu → List EventView → SessionFound → Type 0
IsSessionLaw c cpu events law =
    ((HostWrites c cpu events → ⊥) × (law ≡ found.Silent))
    ⊎ (HostWrites c cpu events × IsWritten c cpu events law)
