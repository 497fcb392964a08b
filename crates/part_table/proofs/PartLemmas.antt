-- What holds of the partitions of a table without faults.
use Rattle.std.proofs.Common.{◌==◌, ◌≡◌, ℕ, ◌+◌, ◌-◌, ◌*◌, ◌<◌, ◌≤◌, ◌⊎◌, inl, inr, false, List, length, take, drop, get_or, ◌∙◌, ap, subst, arith, Option, None, get_or-drop, length-drop, ◌&&◌, ◌||◌, nat_lt, nat_le}
use Rattle.std.proofs.lemmas.Bool.Decides.{nat_tests}
use Rattle.std.proofs.lemmas.Bool.{eqb-true}
use Rattle.std.proofs.lemmas.Option.{slice_get-get_or}
use Rattle.std.proofs.lemmas.List.{length-take-le}
use Rattle.std.specs.List.{position}
use Rattle.block_codec.specs.FirstFault.{first_fault}
use Rattle.block_codec.proofs.FirstFaultLemmas.{sound_from_none}
use Rattle.pico_board.specs.Content.{AreApart}
use Rattle.part_table.specs.declared.partition.Partition.{Partition}
use Rattle.part_table.specs.declared.table.TableFault.{TableFault}
use Rattle.part_table.specs.declared.table.TableFault.TheVariants.{Permissions, Range}
use Rattle.part_table.specs.Fields.{first_sector, last_sector, permissions_of}
use Rattle.part_table.specs.Partitions.{part_at, no_partition}
use Rattle.part_table.specs.Windows.{IsPlacedWindow, part_window, shares_sector}
use Rattle.part_table.specs.Faults.{judge_permissions, judge_range, judge_overlap, is_out_of_range, overlap_fault}
use Rattle.part_table.proofs.TestLemmas.{fails, holds, mapped_none, none_passes}

-- each partition of a list without a first fault has none
pub part_none : (judge : List Partition → Partition → Option TableFault) (parts : List Partition) (i : ℕ)
    → i < length parts → first_fault judge parts ≡ None → judge (take i parts) (part_at parts i) ≡ None
part_none judge parts i lt none =
    sound_from_none judge parts none i (part_at parts i) lt (slice_get-get_or parts i no_partition lt)

range_test : (n m a b : ℕ) → (nat_lt a m || nat_lt b a || nat_le n b) ≡ false → (m ≤ a) × (a ≤ b) × (b < n)
range_test n m a b out = grind (arith, nat_tests)

-- a partition in range
pub in_range : (n m : ℕ) (before : List Partition) (p : Partition) → judge_range n m before p ≡ None
    → (m ≤ first_sector p) × (first_sector p ≤ last_sector p) × (last_sector p < n)
in_range n m before p none =
    range_test n m (first_sector p) (last_sector p) (fails (is_out_of_range n m p) (Range (length before)) none)

-- the window of a partition in range
pub window_placed : (n m : ℕ) (p : Partition) → m ≤ first_sector p → first_sector p ≤ last_sector p → last_sector p < n
    → IsPlacedWindow (part_window p) n m
window_placed n m p low some high = record {
  starts = omega arith;
  whole = omega arith;
  some = omega arith;
  inside = omega arith;
  free = omega arith;
}

share_test : (a b c d : ℕ) → (nat_le a d && nat_le c b) ≡ false → a ≤ b → c ≤ d → (b < c) ⊎ (d < a)
share_test a b c d none a_b c_d = grind (arith, nat_tests)

apart_from : (a b c d : ℕ) → a ≤ b → c ≤ d → (b < c) ⊎ (d < a) → (4096 * a + 4096 * (b + 1 - a) ≤ 4096 * c)
    ⊎ (4096 * c + 4096 * (d + 1 - c) ≤ 4096 * a)
apart_from a b c d a_b c_d (inl before) = inl (omega arith)
apart_from a b c d a_b c_d (inr behind) = inr (omega arith)

-- partitions that share no sector stand apart
pub windows_apart : (p q : Partition) → first_sector p ≤ last_sector p → first_sector q ≤ last_sector q
    → shares_sector p q ≡ false
    → AreApart (part_window p) (part_window q)
windows_apart p q p_some q_some none =
    apart_from (first_sector p) (last_sector p) (first_sector q) (last_sector q) p_some q_some
    (share_test (first_sector p) (last_sector p) (first_sector q) (last_sector q) none p_some q_some)

-- the two permission fields of a partition without a fault of them are equal
pub permissions_agree : (before : List Partition) (p : Partition) → judge_permissions before p ≡ None
    → permissions_of p.location ≡ permissions_of p.flags
permissions_agree before p none =
    eqb-true (permissions_of p.location) (permissions_of p.flags)
    (holds (permissions_of p.location == permissions_of p.flags) (Permissions (length before)) none)

-- a partition without a fault of overlap shares no sector with a later one
pub no_share : (parts : List Partition) → overlap_fault parts ≡ None → (i j : ℕ) → i < j → j < length parts
    → shares_sector (part_at parts i) (part_at parts j) ≡ false
no_share parts none i j before lt =
    let p : Partition = part_at parts i in
    let judged : judge_overlap parts (take i parts) p ≡ None =
    part_none (judge_overlap parts) parts i (omega arith) none in
    let long : length (take i parts) ≡ i = length-take-le i parts (omega arith) in
    let nowhere : position (shares_sector p) (drop (length (take i parts) + 1) parts) ≡ None = mapped_none _ _ judged in
    let here : position (shares_sector p) (drop (i + 1) parts) ≡ None =
    subst (λ n. position (shares_sector p) (drop (n + 1) parts) ≡ None) long nowhere in
    let room : j - (i + 1) < length (drop (i + 1) parts) = simp length-drop (omega arith) in
    let false_at : shares_sector p (get_or (drop (i + 1) parts) (j - (i + 1)) no_partition) ≡ false =
    none_passes (shares_sector p) (drop (i + 1) parts) here (j - (i + 1)) no_partition room in
    let at : get_or (drop (i + 1) parts) (j - (i + 1)) no_partition
    ≡ get_or parts (i + 1 + (j - (i + 1))) no_partition = get_or-drop (i + 1) parts (j - (i + 1)) no_partition in
    let place : i + 1 + (j - (i + 1)) ≡ j = omega arith in
    subst (λ q. shares_sector p q ≡ false) (at ∙ ap (λ k. get_or parts k no_partition) place) false_at
