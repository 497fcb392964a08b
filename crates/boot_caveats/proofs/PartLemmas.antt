-- What is to be looked up of the partitions of the table, by the functions and in the words of the rules.
use Rattle.std.proofs.Common.{◌≡◌, ◌≢◌, ◌⊎◌, ℕ, not, Bool, true, false, List, slice_get, Option, Some, None, option_and_then, refl, sym, ap, ◌∙◌, subst}
use Rattle.std.specs.Prelude.{option_to_list}
use Rattle.std.specs.Bool.{Decides}
use Rattle.std.specs.Option.{option_map_or}
use Rattle.pico_board.specs.declared.boot.Cpu.TheVariants.{Arm, Riscv}
use Rattle.pico_board.specs.declared.window.Window.{Window}
use Rattle.part_table.specs.declared.partition.Partition.{Partition}
use Rattle.part_table.specs.declared.table.Table.{Table}
use Rattle.part_table.specs.Fields.{is_ignored, link_value}
use Rattle.part_table.specs.Links.{is_owned, is_second}
use Rattle.part_table.specs.Partitions.{part_at}
use Rattle.part_table.specs.Windows.{part_window}
use Rattle.boot_rules.specs.declared.decision.Decision.{Decision}
use Rattle.slot_caveats.specs.declared.caveat.Caveat.TheVariants.{IgnoreFlags}
use Rattle.slot_caveats.specs.Listing.{caveat_if}
use Rattle.boot_caveats.specs.ChoiceCaveats.{started_window}
use Rattle.boot_caveats.specs.ChoiceRules.{StartsIn}
use Rattle.boot_caveats.specs.ImageCaveats.{is_window}
use Rattle.boot_caveats.specs.PartCaveats.{has_other_ignores, ignore_flags, is_readable, no_read, of_parts, starts_at}
use Rattle.boot_caveats.specs.PartRules.{AreIgnoreFlags, AreNoReads, HasOtherIgnores, IsIgnoreFlags, IsNoRead}
use Rattle.slot_caveats.specs.TableCaveats.{is_same_flag}
use Rattle.slot_caveats.proofs.ListingLemmas.{IsJust, and-decides, is-false, is-true, or-decides, where-just}
use Rattle.boot_caveats.proofs.ChoiceCaveatLemmas.{in-starts, starts-in}
use Rattle.slot_caveats.proofs.TableCaveatLemmas.{no-parts, parts-just}
use Rattle.boot_caveats.proofs.WindowLemmas.{window-decides}

-- ---- ignore flags

differs-decides : (a b : Bool) → Decides (not (is_same_flag a b)) (a ≢ b)
differs-decides true true = (λ e. cc, λ never. absurd (never refl))
differs-decides true false = (λ e. λ same. cc, λ never. refl)
differs-decides false true = (λ e. λ same. cc, λ never. refl)
differs-decides false false = (λ e. cc, λ never. absurd (never refl))

abbrev DiffersIn : Partition → Partition → Type 0
DiffersIn p first = (is_second p ≡ true) × ((is_owned first ≡ false)
    × ((is_ignored Arm p ≢ is_ignored Arm first) ⊎ (is_ignored Riscv p ≢ is_ignored Riscv first)))

ignores-decide : (p first : Partition) → Decides (has_other_ignores p first) (DiffersIn p first)
ignores-decide p first =
    and-decides _ _ _ _ (is-true (is_second p))
    (and-decides _ _ _ _ (is-false (is_owned first))
    (or-decides _ _ _ _ (differs-decides (is_ignored Arm p) (is_ignored Arm first))
    (differs-decides (is_ignored Riscv p) (is_ignored Riscv first))))

-- the partition that is linked, where there is one, and the test on it
abbrev linked_test : Partition → Option Partition → Bool
linked_test p o = option_map_or (has_other_ignores p) o false

linked-decides : (parts : List Partition) (i : ℕ)
    → Decides (linked_test (part_at parts i) (slice_get parts (link_value (part_at parts i)))) (HasOtherIgnores parts i)
linked-decides parts i = (to (slice_get parts (link_value (part_at parts i))) refl, from)
  where
    to : (o : Option Partition) → slice_get parts (link_value (part_at parts i)) ≡ o
        → linked_test (part_at parts i) o ≡ true → HasOtherIgnores parts i
    to None at e = cc
    to (Some first) at e =
        let is = (ignores-decide (part_at parts i) first).0 e in
        record { first = first; second = is.0; linked = at; free = is.1.0; differs = is.1.1 }

    from : HasOtherIgnores parts i
        → linked_test (part_at parts i) (slice_get parts (link_value (part_at parts i))) ≡ true
    from is =
        ap (linked_test (part_at parts i)) is.linked
        ∙ (ignores-decide (part_at parts i) is.first).1 (is.second, (is.free, is.differs))

as-test : (p : Partition) (i : ℕ) (o : Option Partition)
    → option_and_then (λ first. caveat_if (has_other_ignores p first) (IgnoreFlags i)) o
    ≡ caveat_if (linked_test p o) (IgnoreFlags i)
as-test p i None = refl
as-test p i (Some first) = refl

ignore-just : (parts : List Partition) (i : ℕ) → IsJust (IsIgnoreFlags parts i) (option_to_list (ignore_flags parts i))
ignore-just parts i =
    subst (λ o. IsJust (IsIgnoreFlags parts i) (option_to_list o))
    (sym (as-test (part_at parts i) i (slice_get parts (link_value (part_at parts i)))))
    (where-just _ _ _ (linked-decides parts i))

pub ignores-just : (table : Option Table) → IsJust (AreIgnoreFlags table) (of_parts ignore_flags table)
ignores-just None = no-parts IsIgnoreFlags
ignores-just (Some t) = parts-just IsIgnoreFlags ignore_flags ignore-just t

-- ---- a start in a partition that may not be read

pub starts-decides : (d : Decision) (w : Window) → Decides (starts_at d w) (StartsIn d w)
starts-decides d w = (to (started_window d) refl, from)
  where
    to : (o : Option Window) → started_window d ≡ o → option_map_or (is_window w) o false ≡ true → StartsIn d w
    to None is e = cc
    to (Some v) is e = starts-in d w (is ∙ ap Some ((window-decides w v).0 e))

    from : StartsIn d w → starts_at d w ≡ true
    from is = ap (λ o. option_map_or (is_window w) o false) (in-starts d w is) ∙ (window-decides w w).1 refl

pub reads-just : (d : Decision) (table : Option Table) → IsJust (AreNoReads d table) (of_parts (no_read d) table)
reads-just d None = no-parts (IsNoRead d)
reads-just d (Some t) = parts-just (IsNoRead d) (no_read d)
    (λ parts i. where-just _ _ _ (and-decides _ _ _ _ (starts-decides d (part_window (part_at parts i)))
    (is-false (is_readable (part_at parts i))))) t
