-- A session on a partition that is in no boot unit leaves what a normal boot decides.
use Rattle.std.proofs.Common.{◌≡◌, ℕ, ◌*◌, ◌/◌, ◌<◌, List, length, Some, sym, ap, ◌∙◌, subst, option_map}
use Rattle.std.specs.Prelude.{slice_get}
use Rattle.pico_board.specs.declared.Step.{Step}
use Rattle.pico_board.specs.declared.boot.BootKind.TheVariants.{Normal}
use Rattle.pico_board.specs.declared.boot.Cpu.{Cpu}
use Rattle.pico_board.specs.declared.window.Window.{Window}
use Rattle.pico_board.specs.Content.{AreApart, Content, IsContent}
use Rattle.pico_board.specs.Sessions.{Confined, SameButWindow}
use Rattle.pico_board.specs.Steps.{MayLeave}
use Rattle.pico_board.proofs.ConfinementLemmas.{confined-MayLeave}
use Rattle.otp_roll.specs.Flags.{slot_size}
use Rattle.part_table.specs.Sound.{IsSoundTable}
use Rattle.part_table.specs.Windows.{partition_window}
use Rattle.part_table.proofs.TableLemmas.{partition_placed, partitions_apart}
use Rattle.slot_choice.specs.declared.unit.SlotUnit.{SlotUnit}
use Rattle.slot_choice.specs.Units.{IsMember, units}
use Rattle.slot_choice.proofs.PlaceLemmas.{boot_unit}
use Rattle.boot_rules.specs.declared.decision.Decision.{Decision}
use Rattle.boot_rules.specs.declared.tables.Found.{Found}
use Rattle.boot_rules.specs.Choosing.{boot_units_in}
use Rattle.boot_rules.specs.Chosen.{Chosen}
use Rattle.boot_rules.specs.Tables.{slot_window, table_in}
use Rattle.boot_rules.proofs.DataLemmas.{same-decision, same-table}
use Rattle.boot_rules.proofs.DecisionLemmas.{chosen-exactly}
use Rattle.boot_rules.proofs.TableLemmas.{found-in, found-sound}
use Rattle.boot_session.specs.CutSessions.{IsInNoUnit}
use Rattle.boot_session.proofs.NeighbourLemmas.{placed-apart}
use Rattle.boot_session.proofs.TargetLemmas.{member-partition}

module _ (c : Content) (cpu : Cpu) (found : Found) (i : ℕ) (right : IsContent c) (is : table_in c ≡ Some found)
    (lt : i < length found.table.parts.items) where
  abbrev n : ℕ
  n = length c.flash

  abbrev z : ℕ
  z = slot_size c.otp n

  abbrev w : Window
  w = partition_window found.table i

  sound : IsSoundTable found.table (n / 4096)
  sound = found-sound c found is

  slots : AreApart (slot_window z 0) w × AreApart (slot_window z 1) w
  slots =
      placed-apart c w right
      (partition_placed found.table (n / 4096) (2 * z / 4096) (found-in c found is).1 i lt)

  -- the members of the boot units are other partitions
  members-apart : IsInNoUnit c cpu w → (k : ℕ) (v : SlotUnit) → slice_get (boot_units_in c cpu) k ≡ Some v
      → (x : Window) → IsMember v x → AreApart w x
  members-apart none k v at x inside =
      let boot = boot_unit found.table n z cpu k v
      (sym (ap (λ o. slice_get (units (option_map (λ (f : Found). f.table) o) n z cpu) k) is) ∙ at) in
      let part = member-partition found.table boot.0 boot.1.within x
      (subst (λ (u : SlotUnit). IsMember u x) boot.1.unit inside) in
      subst (AreApart w) (sym part.2)
      (partitions_apart found.table (n / 4096) sound i part.0 lt part.1
      (λ e. none k v x at inside (part.2 ∙ ap (partition_window found.table) (sym e))))

  stays : (steps : List Step) (d : Content) (e : Decision) → IsInNoUnit c cpu w → Confined steps w
      → MayLeave c steps d → Chosen c cpu Normal e → Chosen d cpu Normal e
  stays steps d e none confined leaves chosen =
      let same : SameButWindow w c d = confined-MayLeave c w steps d confined leaves in
      (chosen-exactly d cpu Normal e).1
      ((chosen-exactly c cpu Normal e).0 chosen
      ∙ sym (same-decision c d w same (same-table c d w same slots.0 slots.1) cpu (members-apart none)))

pub outside-stays : (c : Content) (w : Window) (cpu : Cpu) (steps : List Step) (d : Content) (e : Decision)
    (found : Found) (i : ℕ) → IsContent c → table_in c ≡ Some found → i < length found.table.parts.items
    → w ≡ partition_window found.table i → IsInNoUnit c cpu w → Confined steps w → MayLeave c steps d
    → Chosen c cpu Normal e → Chosen d cpu Normal e
outside-stays c w cpu steps d e found i right is lt at none confined leaves chosen =
    stays c cpu found i right is lt steps d e (subst (IsInNoUnit c cpu) at none) (subst (Confined steps) at confined)
    leaves chosen
