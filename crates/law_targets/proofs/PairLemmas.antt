-- The windows of a partition and of its B.
use Rattle.std.proofs.Common.{◌≡◌, ℕ, ◌<◌, ◌==◌, ◌&&◌, Bool, true, List, length, slice_get, Option, Some, None, refl, sym, ap, ◌∙◌}
use Rattle.std.specs.Prelude.{option_map}
use Rattle.std.proofs.lemmas.Bool.{eq-eqb, eqb-true}
use Rattle.std.proofs.lemmas.Option.{get_or_from_slice_get, same_Some, slice_get-get_or, slice_get_within}
use Rattle.pico_board.specs.declared.window.Window.{Window}
use Rattle.part_table.specs.declared.partition.Partition.{Partition}
use Rattle.part_table.specs.declared.table.Table.{Table}
use Rattle.part_table.specs.Faults.{link_fault}
use Rattle.part_table.specs.Fields.{link_type, link_value}
use Rattle.part_table.specs.Links.{is_second, is_second_of, pair_of}
use Rattle.part_table.specs.Partitions.{no_partition, part_at}
use Rattle.part_table.specs.Windows.{part_window}
use Rattle.part_table.proofs.LinkLemmas.{second_found, second_is_found}
use Rattle.part_table.proofs.TestLemmas.{both_of_two}
use Rattle.slot_choice.specs.Units.{unit_of}
use Rattle.law_targets.specs.Pairs.{AreWindowsOf, HasNoSecond, IsPart, IsSecondOf, IsSecondWindow, SaysFirst}

module _ (t : Table) where
  abbrev parts : List Partition
  parts = t.parts.items

  pub part-is : (i : ℕ) (p : Partition) → IsPart t i p → part_at parts i ≡ p
  part-is i p at = get_or_from_slice_get parts i p no_partition at

  pub part-within : (i : ℕ) (p : Partition) → IsPart t i p → i < length parts
  part-within i p at = slice_get_within parts i p at

  pub part-there : (i : ℕ) → i < length parts → IsPart t i (part_at parts i)
  part-there i lt = slice_get-get_or parts i no_partition lt

  second-says : (q : Partition) (i : ℕ) → is_second_of i q ≡ true → SaysFirst q i
  second-says q i e =
      let both = both_of_two _ _ e in (eqb-true (link_type q) 1 both.0, eqb-true (link_value q) i both.1)

  two : (x y : Bool) → x ≡ true → y ≡ true → (x && y) ≡ true
  two x y a b = rw (a, b) refl

  says-second : (q : Partition) (i : ℕ) → SaysFirst q i → is_second_of i q ≡ true
  says-second q i says =
      two (is_second q) (link_value q == i) (eq-eqb (link_type q) 1 says.0) (eq-eqb (link_value q) i says.1)

  pub second-words : (i j : ℕ) → pair_of parts i ≡ Some j → IsSecondOf t i j (part_at parts j)
  second-words i j e =
      let found = second_found parts i j e in
      record { stands = part-there j found.0; says = second-says (part_at parts j) i found.1 }

  module _ (sound : link_fault parts ≡ None) where
    pub words-second : (i j : ℕ) (q : Partition) → IsSecondOf t i j q → pair_of parts i ≡ Some j
    words-second i j q is =
        second_is_found parts sound i j (part-within j q is.stands)
        (ap (is_second_of i) (part-is j q is.stands) ∙ says-second q i is.says)

    pub none-words : (i : ℕ) → pair_of parts i ≡ None → HasNoSecond t i
    none-words i e j q is = let both : None ≡ Some j = sym e ∙ words-second i j q is in cc

    -- the B of a partition is one partition
    pub one-number : (i j k : ℕ) (q r : Partition) → IsSecondOf t i j q → IsSecondOf t i k r → j ≡ k
    one-number i j k q r one other =
        same_Some j k (sym (words-second i j q one) ∙ words-second i k r other)

    pub one-second : (i j k : ℕ) (q r : Partition) → IsSecondOf t i j q → IsSecondOf t i k r → q ≡ r
    one-second i j k q r one other =
        same_Some q r (sym one.stands ∙ ap (slice_get parts) (one-number i j k q r one other) ∙ other.stands)

    -- the windows of a unit are those of its partition and of the B
    pub unit-windows : (i : ℕ) → i < length parts → AreWindowsOf t i (unit_of parts i).a (unit_of parts i).b
    unit-windows i lt = record {
      part = part_at parts i;
      stands = part-there i lt;
      first = refl;
      second = by (pair_of parts i) refl;
    }
      where
        by : (o : Option ℕ) → pair_of parts i ≡ o
            → IsSecondWindow t i (option_map (λ j. part_window (part_at parts j)) o)
        by None e = none-words i e
        by (Some j) e = (j, part_at parts j, second-words i j e, refl)

    windows-second : (i : ℕ) (o : Option Window) → IsSecondWindow t i o → (unit_of parts i).b ≡ o
    windows-second i None none = by (pair_of parts i) refl
      where
        by : (o : Option ℕ) → pair_of parts i ≡ o
            → option_map (λ j. part_window (part_at parts j)) (pair_of parts i) ≡ None
        by None e = ap (option_map (λ j. part_window (part_at parts j))) e
        by (Some j) e = absurd (none j (part_at parts j) (second-words i j e))
    windows-second i (Some w) is =
        ap (option_map (λ j. part_window (part_at parts j))) (words-second i is.0 is.1 is.2)
        ∙ ap Some (ap part_window (part-is is.0 is.1 (is.2).stands) ∙ sym is.3)

    pub windows-unit : (i : ℕ) (one : Window) (o : Option Window) → AreWindowsOf t i one o
        → ((unit_of parts i).a ≡ one) × ((unit_of parts i).b ≡ o)
    windows-unit i one o are =
        (ap part_window (part-is i are.part are.stands) ∙ sym are.first, windows-second i o are.second)
