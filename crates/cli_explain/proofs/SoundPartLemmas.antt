-- The partitions of the table that the reasons name.
use Rattle.std.proofs.Common.{◌≡◌, ℕ, ◌/◌, ◌≤◌, All, IfSome, Option, Some, None, length, refl, subst, sym, ap, ◌∙◌}
use Rattle.pico_board.specs.declared.boot.Cpu.{Cpu}
use Rattle.pico_board.specs.declared.boot.BootKind.{BootKind}
use Rattle.pico_board.specs.Content.{Content}
use Rattle.part_table.specs.declared.table.Table.{Table}
use Rattle.part_table.specs.Fields.{first_sector, last_sector}
use Rattle.part_table.specs.Sound.{IsSoundTable}
use Rattle.boot_reasons.specs.declared.reasons.Reasons.{Reasons}
use Rattle.boot_reasons.specs.Reasons.{reasons_in, table_of_reasons}
use Rattle.boot_reasons.proofs.TableReasonLemmas.{taken-in}
use Rattle.boot_rules.proofs.PlaceLemmas.{table-sound}
use Rattle.boot_rules.specs.Tables.{table_in}

-- the first sector of each partition of a sound table is not above its last
pub sound-parts : (n : ℕ) (o : Option Table) → IfSome o (λ t. IsSoundTable t n)
    → IfSome o (λ t. All (λ p. first_sector p ≤ last_sector p) t.parts.items)
sound-parts n None sound = tt
sound-parts n (Some t) sound = λ k d lt. (sound.inside k d lt).0

-- the table of the reasons is sound
pub sound-reasons : (c : Content) (cpu : Cpu) (kind : BootKind) (r : Reasons) → r ≡ reasons_in c cpu kind
    → IfSome (table_of_reasons r) (λ t. IsSoundTable t (length c.flash / 4096))
unfolding reasons_in
sound-reasons c cpu kind r e =
    subst (λ (o : Option Table). IfSome o (λ t. IsSoundTable t (length c.flash / 4096)))
    (sym (ap table_of_reasons e ∙ taken-in c)) (table-sound c (table_in c) refl)
