-- What holds of tables without faults, and of sound ones.
use Rattle.std.proofs.Common.{◌≡◌, ◌≢◌, ℕ, ◌<◌, ◌≤◌, inl, inr, ◌&&◌, nat_le, true, false, List, length, take, refl, ◌∙◌, ap, subst, arith, Option, None, Some, Result, Ok, Err, IfOk, Bool, sym, if◌then◌else◌, slice_get, find}
use Rattle.std.specs.List.{position_or_len}
use Rattle.std.specs.Option.{option_or, option_map_or}
use Rattle.std.proofs.lemmas.Bool.{cases_lt}
use Rattle.std.proofs.lemmas.Bool.Decides.{nat_tests}
use Rattle.std.proofs.lemmas.List.{get_or_default}
use Rattle.pico_board.specs.declared.window.Window.{Window}
use Rattle.std.proofs.lemmas.List.Folds.{find_at}
use Rattle.std.proofs.lemmas.Option.{slice_get-get_or, slice_get_within, get_or_from_slice_get}
use Rattle.pico_board.specs.Content.{AreApart}
use Rattle.block_codec.specs.FirstFault.{ok_unless}
use Rattle.block_codec.specs.Blocks.{BlockView, block_words}
use Rattle.block_codec.specs.Items.{items_of}
use Rattle.part_table.specs.declared.partition.Partition.{Partition}
use Rattle.part_table.specs.declared.table.Table.{Table}
use Rattle.part_table.specs.declared.table.TableFault.{TableFault}
use Rattle.part_table.specs.Fields.{first_sector, last_sector, permissions_of}
use Rattle.part_table.specs.Partitions.{part_at, no_partition}
use Rattle.part_table.specs.Windows.{IsPlacedWindow, partition_window, has_sector, shares_sector}
use Rattle.part_table.specs.Rights.{right_word}
use Rattle.part_table.specs.Faults.{judge_permissions, judge_range, permissions_fault, range_fault, overlap_fault, link_fault, parts_fault, table_fault}
use Rattle.part_table.specs.Contents.{table_of_items, fields_of_items, has_bad_hash, ok_unless_bad, ok_or_bad}
use Rattle.part_table.specs.TableOf.{table_or_fault, wrong_hash_fault, table_of}
use Rattle.part_table.specs.Sound.{IsSoundTable}
use Rattle.part_table.proofs.TestLemmas.{first_none, second_none, never_true, first_position, search_of}
use Rattle.part_table.proofs.PartLemmas.{part_none, in_range, window_placed, windows_apart, permissions_agree, no_share}

-- the four kinds of fault that a table may have, none of which it has
pub record IsFaultless (parts : List Partition) (n m : ℕ) : Type 0 where
  pub permissions : permissions_fault parts ≡ None
  pub range : range_fault n m parts ≡ None
  pub overlap : overlap_fault parts ≡ None
  pub links : link_fault parts ≡ None

pub faultless : (t : Table) (n m : ℕ) → table_fault t n m ≡ None → IsFaultless t.parts.items n m
faultless t n m none =
    let parts : List Partition = t.parts.items in
    let later : option_or (range_fault n m parts) (option_or (overlap_fault parts) (link_fault parts)) ≡ None =
    second_none (permissions_fault parts) _ none in
    let last : option_or (overlap_fault parts) (link_fault parts) ≡ None =
    second_none (range_fault n m parts) _ later in
    record {
      permissions = first_none (permissions_fault parts) _ none;
      range = first_none (range_fault n m parts) _ later;
      overlap = first_none (overlap_fault parts) _ last;
      links = second_none (overlap_fault parts) _ last;
    }

-- the sectors of each partition of a table without faults
pub sectors_in : (t : Table) (n m : ℕ) → table_fault t n m ≡ None → (i : ℕ) → i < length t.parts.items
    → (m ≤ first_sector (part_at t.parts.items i))
    × (first_sector (part_at t.parts.items i) ≤ last_sector (part_at t.parts.items i))
    × (last_sector (part_at t.parts.items i) < n)
sectors_in t n m none i lt =
    in_range n m (take i t.parts.items) (part_at t.parts.items i)
    (part_none (judge_range n m) t.parts.items i lt (faultless t n m none).range)

-- each partition of a table without faults is a window of whole sectors inside the flash
pub partition_placed : (t : Table) (n m : ℕ) → table_fault t n m ≡ None → (i : ℕ) → i < length t.parts.items
    → IsPlacedWindow (partition_window t i) n m
partition_placed t n m none i lt =
    let sectors : _ = sectors_in t n m none i lt in
    window_placed n m (part_at t.parts.items i) sectors.0 sectors.1 sectors.2

-- a table without faults is sound
pub sound_from_faultless : (t : Table) (n m : ℕ) → table_fault t n m ≡ None → IsSoundTable t n
sound_from_faultless t n m none =
    let parts : IsFaultless t.parts.items n m = faultless t n m none in
    record {
      permissions = parts.permissions;
      overlap = parts.overlap;
      links = parts.links;
      inside = λ k d lt.
          let sectors : _ = sectors_in t n m none k lt in
          subst (λ p. (first_sector p ≤ last_sector p) × (last_sector p < n))
          (get_or_default t.parts.items k no_partition d lt) (sectors.1, sectors.2);
    }

-- a table that is the answer has no fault
judged_table : (t u : Table) (fault : Option TableFault) → ok_unless fault u ≡ Ok t → (u ≡ t) × (fault ≡ None)
judged_table t u None e = (cc, refl)
judged_table t u (Some f) e = cc

-- what a table that was read is
pub judged_ok : (o : Option Table) (n m : ℕ) (digest : Option TableFault) (t : Table)
    → table_or_fault o n m digest ≡ Ok t
    → (o ≡ Some t) × (table_fault t n m ≡ None) × (digest ≡ None)
judged_ok None n m digest t e = cc
judged_ok (Some u) n m digest t e =
    let answer : (u ≡ t) × (option_or (table_fault u n m) digest ≡ None) =
    judged_table t u (option_or (table_fault u n m) digest) e in (
      ap (λ v. Some v) answer.0,
      subst (λ v. table_fault v n m ≡ None) answer.0 (first_none (table_fault u n m) digest answer.1),
      second_none (table_fault u n m) digest answer.1,
    )

-- a table that a block reads as has no fault, and is sound
pub faultless_from_table_of : (b : BlockView) (n m : ℕ) (t : Table) → table_of b n m ≡ Ok t → table_fault t n m ≡ None
faultless_from_table_of b n m t e =
    (judged_ok (table_of_items (block_words b) (items_of b.items)) n m
    (wrong_hash_fault (block_words b) (items_of b.items)) t e).1

pub sound_from_table_of : (b : BlockView) (n m : ℕ) (t : Table) → table_of b n m ≡ Ok t → IsSoundTable t n
sound_from_table_of b n m t e = sound_from_faultless t n m (faultless_from_table_of b n m t e)

-- the sectors of each partition of a sound table
pub sound_sectors : (t : Table) (n : ℕ) → IsSoundTable t n → (i : ℕ) → i < length t.parts.items
    → (first_sector (part_at t.parts.items i) ≤ last_sector (part_at t.parts.items i))
    × (last_sector (part_at t.parts.items i) < n)
sound_sectors t n sound i lt = sound.inside i no_partition lt

-- each partition of a sound table is a window of whole sectors inside the flash
pub sound_placed : (t : Table) (n : ℕ) → IsSoundTable t n → (i : ℕ) → i < length t.parts.items
    → IsPlacedWindow (partition_window t i) n 0
sound_placed t n sound i lt =
    let sectors : _ = sound_sectors t n sound i lt in
    window_placed n 0 (part_at t.parts.items i) (omega arith) sectors.0 sectors.1

-- an earlier and a later partition of a sound table stand apart
apart_in_order : (t : Table) (n : ℕ) → IsSoundTable t n → (i j : ℕ) → i < j → j < length t.parts.items
    → AreApart (partition_window t i) (partition_window t j)
apart_in_order t n sound i j before lt =
    windows_apart (part_at t.parts.items i) (part_at t.parts.items j)
    (sound_sectors t n sound i (omega arith)).0 (sound_sectors t n sound j lt).0
    (no_share t.parts.items sound.overlap i j before lt)

-- windows stand apart either way
pub apart_sym : (v w : Window) → AreApart v w → AreApart w v
apart_sym v w (inl before) = inr before
apart_sym v w (inr behind) = inl behind

-- two partitions of a sound table stand apart
pub partitions_apart : (t : Table) (n : ℕ) → IsSoundTable t n → (i j : ℕ) → i < length t.parts.items
    → j < length t.parts.items → i ≢ j
    → AreApart (partition_window t i) (partition_window t j)
partitions_apart t n sound i j i_lt j_lt differ =
    elim (cases_lt i j) [
      | inl before ↦ apart_in_order t n sound i j before j_lt
      | inr behind ↦
          apart_sym (partition_window t j) (partition_window t i) (apart_in_order t n sound j i (omega arith) i_lt)
    ]

-- two partitions that hold a sector share it
both_hold : (a b c d s : ℕ) → (nat_le a s && nat_le s b) ≡ true → (nat_le c s && nat_le s d) ≡ true
    → (nat_le a d && nat_le c b) ≡ true
both_hold a b c d s one two = grind (arith, nat_tests)

-- where no two overlap, no partition before the one that holds a sector holds it too
only_holder : (t : Table) → overlap_fault t.parts.items ≡ None → (i k s : ℕ) → i < length t.parts.items → k < i
    → has_sector s (part_at t.parts.items i) ≡ true
    → has_sector s (part_at t.parts.items k) ≡ false
only_holder t none i k s lt before holds =
    never_true (has_sector s (part_at t.parts.items k)) (λ yes.
    let shared : shares_sector (part_at t.parts.items k) (part_at t.parts.items i) ≡ true =
    both_hold _ _ _ _ s yes holds in
    let apart : shares_sector (part_at t.parts.items k) (part_at t.parts.items i) ≡ false =
    no_share t.parts.items none k i before lt in
    cc)

-- where no two overlap, the permissions of a sector of a partition are those of that partition
pub partition_right : (t : Table) → overlap_fault t.parts.items ≡ None → (i s : ℕ) → i < length t.parts.items
    → has_sector s (part_at t.parts.items i) ≡ true
    → right_word t s ≡ (part_at t.parts.items i).location
partition_right t none i s lt holds =
    let first : position_or_len (has_sector s) t.parts.items ≡ i =
    (first_position (has_sector s) t.parts.items i no_partition lt holds
    (λ k before. only_holder t none i k s lt before holds)).0 in
    let found : find (has_sector s) t.parts.items ≡ Some (part_at t.parts.items i) =
    find_at (has_sector s) t.parts.items ∙ ap (λ k. slice_get t.parts.items k) first
    ∙ slice_get-get_or t.parts.items i no_partition lt in
    ap (λ o. option_map_or (λ (p : Partition). p.location) o t.unpartitioned) found

-- a sector of no partition
pub other_right : (t : Table) (s : ℕ)
    → ((i : ℕ) → i < length t.parts.items → has_sector s (part_at t.parts.items i) ≡ false)
    → right_word t s ≡ t.unpartitioned
other_right t s none =
    elim (search_of (has_sector s) t.parts.items) [
      | inl absent ↦ ap (λ o. option_map_or (λ (p : Partition). p.location) o t.unpartitioned) absent.unfound
      | inr found ↦
          let at : part_at t.parts.items found.0 ≡ found.1 =
          get_or_from_slice_get t.parts.items found.0 found.1 no_partition found.2.at in
          let fails : has_sector s found.1 ≡ false =
          subst (λ p. has_sector s p ≡ false) at
          (none found.0 (slice_get_within t.parts.items found.0 found.1 found.2.at)) in
          let passes : has_sector s found.1 ≡ true = found.2.passes in
          cc
    ]

-- without a fault of permissions, both words of a partition have the same
pub permissions_of_both : (t : Table) → permissions_fault t.parts.items ≡ None → (i : ℕ) → i < length t.parts.items
    → permissions_of (part_at t.parts.items i).location ≡ permissions_of (part_at t.parts.items i).flags
permissions_of_both t none i lt =
    permissions_agree (take i t.parts.items) (part_at t.parts.items i)
    (part_none judge_permissions t.parts.items i lt none)

-- a value that was read without something bad
pub not_bad : {A : Type 0} (bad : Bool) (value read : A) → Ok read ≡ ok_unless_bad bad value → bad ≡ false
not_bad true value read e = cc
not_bad false value read e = refl

pub some_read : {A : Type 0} (o : Option A) (read : A) → Ok read ≡ ok_or_bad o → o ≡ Some read
some_read None read e = cc
some_read (Some value) read e = cc

-- a fault of the partitions of a table that was read
pub fault_of_parts : (b : BlockView) (n m : ℕ) (t : Table) (f : TableFault)
    → has_bad_hash (block_words b) (items_of b.items) ≡ false
    → fields_of_items (block_words b) (items_of b.items) ≡ Some t → Some f ≡ parts_fault t.parts.items n m
    → Err f ≡ table_of b n m
fault_of_parts b n m t f good fields fault =
    let wrong : Option TableFault = wrong_hash_fault (block_words b) (items_of b.items) in
    sym (ap (λ bad. table_or_fault
    (if bad then None else fields_of_items (block_words b) (items_of b.items)) n m wrong) good
    ∙ ap (λ o. table_or_fault o n m wrong) fields
    ∙ ap (λ g. ok_unless (option_or g wrong) t) (sym fault))

-- what holds of each table that was read
pub of_read : (b : BlockView) (n m : ℕ) (r : Result Table TableFault) (P : Table → Type 0) → r ≡ table_of b n m
    → ((t : Table) → table_of b n m ≡ Ok t → P t) → IfOk r P
of_read b n m (Ok t) P e holds = holds t (sym e)
of_read b n m (Err f) P e holds = tt
