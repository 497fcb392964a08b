-- What a loop over a table's partitions keeps of their first fault.
use Rattle.std.proofs.Common.{◌≡◌, ℕ, ◌+◌, ◌<◌, ◌≤◌, Bool, true, false, List, length, take, drop, get_or, refl, sym, ◌∙◌, ap, arith, Option, None, Some, option_map, position, slice_get, if◌then◌else◌}
use Rattle.std.proofs.lemmas.List.{length-take-le, get_or_default}
use Rattle.std.proofs.lemmas.Option.{slice_get-get_or}
use Rattle.block_codec.specs.FirstFault.{first_fault, AreSound}
use Rattle.block_codec.proofs.FirstFaultLemmas.{sound_more, none_from_sound_at, fault_from_first, first_at}
use Rattle.part_table.specs.declared.partition.Partition.{Partition}
use Rattle.part_table.specs.declared.table.TableFault.{TableFault}
use Rattle.part_table.specs.declared.table.TableFault.TheVariants.{Overlap}
use Rattle.part_table.specs.Partitions.{part_at, no_partition}
use Rattle.part_table.specs.Windows.{shares_sector}
use Rattle.part_table.specs.Faults.{judge_overlap}

-- a fault that comes with a test
pub faulty : (test : Bool) (f g : TableFault) → test ≡ true → f ≡ g → (if test then Some f else None) ≡ Some g
faulty true f g e same = ap Some same
faulty false f g e same = cc

pub faultless_if : (test : Bool) (f : TableFault) → test ≡ false → (if test then Some f else None) ≡ None
faultless_if true f e = cc
faultless_if false f e = refl

-- a fault that comes without one
pub faulty_unless : (test : Bool) (f g : TableFault) → test ≡ false → f ≡ g → (if test then None else Some f) ≡ Some g
faulty_unless true f g e same = cc
faulty_unless false f g e same = ap Some same

pub faultless_unless : (test : Bool) (f : TableFault) → test ≡ true → (if test then None else Some f) ≡ None
faultless_unless true f e = refl
faultless_unless false f e = cc

-- what an index read
pub index_of : (parts : List Partition) (i : ℕ) (p : Partition) → i < length parts → p ≡ get_or parts i p
    → slice_get parts i ≡ Some p
index_of parts i p lt is = slice_get-get_or parts i p lt ∙ ap Some (sym is)

pub index_at : (parts : List Partition) (i : ℕ) (p : Partition) → i < length parts → p ≡ get_or parts i p
    → p ≡ part_at parts i
index_at parts i p lt is = is ∙ get_or_default parts i p no_partition lt

module _ (judge : List Partition → Partition → Option TableFault) (parts : List Partition) (i : ℕ)
    (sound : AreSound judge parts i)
    (p : Partition) (at : slice_get parts i ≡ Some p) where
  -- the first fault is that of partition i
  pub found_fault : (f : TableFault) → judge (take i parts) p ≡ Some f → Some f ≡ first_fault judge parts
  found_fault f fault = sym (fault_from_first judge parts i f (first_at judge parts i p f sound at fault))

  -- partition i has no fault either
  pub sound_next : judge (take i parts) p ≡ None → AreSound judge parts (i + 1)
  sound_next none = sound_more judge parts i p sound at none

module _ (judge : List Partition → Partition → Option TableFault) (parts : List Partition) (i : ℕ)
    (sound : AreSound judge parts i) where
  -- no partition has one
  pub no_fault : length parts ≤ i → None ≡ first_fault judge parts
  no_fault all = sym (none_from_sound_at judge parts i all sound)

-- the place of a partition is the number of those before it
pub place_of : (parts : List Partition) (i : ℕ) → i < length parts → length (take i parts) ≡ i
place_of parts i lt = length-take-le i parts (omega arith)

-- an overlap that was found
module _ (parts : List Partition) (i : ℕ) (p : Partition) (lt : i < length parts) where
  abbrev overlap_with : ℕ → List Partition → Option TableFault
  overlap_with n rest = option_map (λ j. Overlap n (n + 1 + j)) (position (shares_sector p) rest)

  judged_at : (rest : List Partition) → rest ≡ drop (i + 1) parts
      → judge_overlap parts (take i parts) p ≡ overlap_with i rest
  judged_at rest is = ap (λ n. overlap_with n (drop (n + 1) parts)) (place_of parts i lt)
      ∙ ap (λ ps. overlap_with i ps) (sym is)

  pub overlaps : (k : ℕ) (rest : List Partition) → rest ≡ drop (i + 1) parts → Some k ≡ position (shares_sector p) rest
      → judge_overlap parts (take i parts) p ≡ Some (Overlap i (i + 1 + k))
  overlaps k rest is found = judged_at rest is ∙ ap (λ o. option_map (λ j. Overlap i (i + 1 + j)) o) (sym found)

  pub no_overlap : (rest : List Partition) → rest ≡ drop (i + 1) parts → None ≡ position (shares_sector p) rest
      → judge_overlap parts (take i parts) p ≡ None
  no_overlap rest is found = judged_at rest is ∙ ap (λ o. option_map (λ j. Overlap i (i + 1 + j)) o) (sym found)
