-- Decisions by other rules that are relations, from what computes.
use Rattle.std.proofs.Common.{◌≡◌, length, Option, Some, None, subst, inr}
use Rattle.pico_board.specs.declared.boot.Cpu.{Cpu}
use Rattle.pico_board.specs.declared.boot.BootKind.{BootKind}
use Rattle.pico_board.specs.declared.window.TheConstants.{SMALLEST_SLOT}
use Rattle.pico_board.specs.Content.{Content}
use Rattle.otp_roll.specs.Flags.{slot_size}
use Rattle.slot_choice.specs.declared.choice.Choice.{Choice}
use Rattle.boot_rules.specs.declared.decision.Decision.{Decision}
use Rattle.boot_rules.specs.declared.decision.Decision.TheVariants.{Bootsel, Start}
use Rattle.boot_rules.specs.declared.decision.Fall.TheVariants.{NoImage}
use Rattle.boot_rules.specs.declared.tables.Found.{Found}
use Rattle.boot_rules.specs.Choosing.{choose, decision_in, images_in}
use Rattle.boot_rules.specs.Chosen.{Chosen}
use Rattle.boot_rules.specs.Tables.{table_in}
use Rattle.boot_rules.proofs.ChoiceLemmas.{choice-starts}
use Rattle.boot_rules.proofs.DecisionLemmas.{decision-chosen, found-valid, valid-found}
use Rattle.boot_rules.proofs.TableRuleLemmas.{table-words}
use Rattle.boot_caveats.specs.ChoiceCaveats.{other_cpu}
use Rattle.law_caveats.specs.Alternatives.{ChosenOfBoth, ChosenWithSlots, slots_alone}

chosen-as : (c : Content) (cpu : Cpu) (kind : BootKind) (d : Decision) → decision_in c cpu kind ≡ d → Chosen c cpu kind d
chosen-as c cpu kind d e = subst (λ (x : Decision). Chosen c cpu kind x) e (decision-chosen c cpu kind)

pub of-both : (c : Content) (cpu : Cpu) (kind : BootKind) (d : Decision) → decision_in c cpu kind ≡ Bootsel NoImage
    → decision_in c (other_cpu cpu) kind ≡ d → ChosenOfBoth c cpu kind d
of-both c cpu kind d none other =
    inr (chosen-as c cpu kind (Bootsel NoImage) none, chosen-as c (other_cpu cpu) kind d other)

some-none : (o : Option Found) (found : Found) → o ≡ None → o ≡ Some found → ⊥
some-none o found e f = cc

pub with-slots : (c : Content) (cpu : Cpu) (kind : BootKind) (choice : Choice)
    → decision_in c cpu kind ≡ Bootsel NoImage → table_in c ≡ None
    → slot_size c.otp (length c.flash) ≡ SMALLEST_SLOT → choose (images_in c cpu) slots_alone ≡ Some choice
    → ChosenWithSlots c cpu kind (Start choice)
with-slots c cpu kind choice none table size slots =
    inr (
      chosen-as c cpu kind (Bootsel NoImage) none,
      (λ found is. some-none (table_in c) found table ((table-words c found).1 is), size),
      choice-starts c cpu (images_in c cpu) (found-valid c cpu) (valid-found c cpu) slots_alone.units None choice slots,
    )
