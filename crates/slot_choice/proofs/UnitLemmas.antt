-- The windows of the members of units.
use Rattle.std.proofs.Common.{◌≡◌, ◌≢◌, ℕ, ◌<◌, ◌⊎◌, inl, inr, true, false, ◌==◌, List, length, refl, sym, ◌∙◌, ap, subst, arith, Some}
use Rattle.std.proofs.lemmas.Bool.{eqb-true}
use Rattle.part_table.specs.Fields.{link_value}
use Rattle.pico_board.specs.declared.window.Window.{Window}
use Rattle.pico_board.specs.Content.{AreApart}
use Rattle.part_table.specs.declared.partition.Partition.{Partition}
use Rattle.part_table.specs.declared.table.Table.{Table}
use Rattle.part_table.specs.Links.{is_second, is_second_of, pair_of}
use Rattle.part_table.specs.Partitions.{part_at}
use Rattle.part_table.specs.Sound.{IsSoundTable}
use Rattle.part_table.specs.Windows.{IsPlacedWindow, partition_window, part_window}
use Rattle.part_table.proofs.TestLemmas.{mapped_some, both_of_two}
use Rattle.part_table.proofs.LinkLemmas.{second_found, first_of_pair}
use Rattle.part_table.proofs.TableLemmas.{partitions_apart}
use Rattle.slot_choice.specs.Units.{unit_of, IsMember}

-- a partition belongs to the unit of another where it is that one or its B
abbrev pub Belongs : List Partition → ℕ → ℕ → Type 0
Belongs parts i e = (e ≡ i) ⊎ (pair_of parts i ≡ Some e)

-- a member of a partition's unit is the window of a partition that belongs to it
pub member_part : (parts : List Partition) (i : ℕ) (w : Window) → IsMember (unit_of parts i) w
    → (e : ℕ) × Belongs parts i e × (w ≡ part_window (part_at parts e))
member_part parts i w (inl a) = (i, inl refl, a)
member_part parts i w (inr b) =
    let found : (e : ℕ) × (pair_of parts i ≡ Some e) × (w ≡ part_window (part_at parts e)) =
    mapped_some (λ j. part_window (part_at parts j)) (pair_of parts i) w b in
    (found.0, inr found.1, found.2)

-- a B's link, from the B that its A has
second_is : (parts : List Partition) (a b : ℕ) → pair_of parts a ≡ Some b
    → (b < length parts) × (is_second (part_at parts b) ≡ true) × (link_value (part_at parts b) ≡ a)
second_is parts a b at =
    let found : (b < length parts) × (is_second_of a (part_at parts b) ≡ true) = second_found parts a b at in
    let both : (is_second (part_at parts b) ≡ true) × ((link_value (part_at parts b) == a) ≡ true) =
    both_of_two _ _ found.1 in
    (found.0, both.0, eqb-true _ _ both.1)

-- what belongs to a partition's unit is a partition
pub belongs_within : (parts : List Partition) (i e : ℕ) → i < length parts → Belongs parts i e → e < length parts
belongs_within parts i e lt (inl same) = omega arith
belongs_within parts i e lt (inr at) = (second_is parts i e at).0

-- what belongs to the units of two partitions that are no B is not the same partition
belongs_apart : (parts : List Partition) (i j e f : ℕ) → is_second (part_at parts i) ≡ false
    → is_second (part_at parts j) ≡ false → i ≢ j
    → Belongs parts i e → Belongs parts j f → e ≢ f
belongs_apart parts i j e f i_first j_first differ (inl one) (inl two) = λ same. differ (sym one ∙ same ∙ two)
belongs_apart parts i j e f i_first j_first differ (inl one) (inr two) = λ same.
    let second : is_second (part_at parts f) ≡ true = (second_is parts j f two).1 in
    let first : is_second (part_at parts f) ≡ false =
    subst (λ k. is_second (part_at parts k) ≡ false) (sym one ∙ same) i_first in
    cc
belongs_apart parts i j e f i_first j_first differ (inr one) (inl two) = λ same.
    let second : is_second (part_at parts e) ≡ true = (second_is parts i e one).1 in
    let first : is_second (part_at parts e) ≡ false =
    subst (λ k. is_second (part_at parts k) ≡ false) (sym two ∙ sym same) j_first in
    cc
belongs_apart parts i j e f i_first j_first differ (inr one) (inr two) = λ same.
    let of_i : link_value (part_at parts e) ≡ i = (second_is parts i e one).2 in
    let of_j : link_value (part_at parts f) ≡ j = (second_is parts j f two).2 in
    differ (sym of_i ∙ ap (λ k. link_value (part_at parts k)) same ∙ of_j)

module _ (t : Table) (n : ℕ) (sound : IsSoundTable t n) where
  -- the members of the units of two partitions that are no B stand apart
  pub units_apart : (i j : ℕ) → i < length t.parts.items → j < length t.parts.items
      → is_second (part_at t.parts.items i) ≡ false → is_second (part_at t.parts.items j) ≡ false → i ≢ j
      → (v w : Window) → IsMember (unit_of t.parts.items i) v → IsMember (unit_of t.parts.items j) w → AreApart v w
  units_apart i j i_lt j_lt i_first j_first differ v w one two =
      let of_v : (e : ℕ) × Belongs t.parts.items i e × (v ≡ part_window (part_at t.parts.items e)) =
      member_part t.parts.items i v one in
      let of_w : (f : ℕ) × Belongs t.parts.items j f × (w ≡ part_window (part_at t.parts.items f)) =
      member_part t.parts.items j w two in
      let apart : AreApart (partition_window t of_v.0) (partition_window t of_w.0) =
      partitions_apart t n sound of_v.0 of_w.0 (belongs_within t.parts.items i of_v.0 i_lt of_v.1)
      (belongs_within t.parts.items j of_w.0 j_lt of_w.1)
      (belongs_apart t.parts.items i j of_v.0 of_w.0 i_first j_first differ of_v.1 of_w.1) in
      subst (λ x. AreApart x w) (sym of_v.2) (subst (λ x. AreApart (partition_window t of_v.0) x) (sym of_w.2) apart)

  -- the two members of a pair stand apart
  pub pair_apart : (i : ℕ) → i < length t.parts.items → (w : Window) → (unit_of t.parts.items i).b ≡ Some w
      → AreApart (unit_of t.parts.items i).a w
  pair_apart i lt w at =
      let found : (e : ℕ) × (pair_of t.parts.items i ≡ Some e) × (w ≡ part_window (part_at t.parts.items e)) =
      mapped_some (λ j. part_window (part_at t.parts.items j)) (pair_of t.parts.items i) w at in
      let second : (found.0 < length t.parts.items) × (is_second_of i (part_at t.parts.items found.0) ≡ true) =
      second_found t.parts.items i found.0 found.1 in
      let first : _ = first_of_pair t.parts.items sound.links i found.0 second.0 second.1 in
      subst (λ x. AreApart (partition_window t i) x) (sym found.2)
      (partitions_apart t n sound i found.0 lt second.0 first.1)

-- each member of a partition's unit stands where partitions stand
pub member_placed : (t : Table) (n m : ℕ)
    → ((e : ℕ) → e < length t.parts.items → IsPlacedWindow (partition_window t e) n m)
    → (i : ℕ) → i < length t.parts.items → (w : Window) → IsMember (unit_of t.parts.items i) w → IsPlacedWindow w n m
member_placed t n m placed i lt w member =
    let of_w : (e : ℕ) × Belongs t.parts.items i e × (w ≡ part_window (part_at t.parts.items e)) =
    member_part t.parts.items i w member in
    subst (λ x. IsPlacedWindow x n m) (sym of_w.2) (placed of_w.0 (belongs_within t.parts.items i of_w.0 lt of_w.1))
