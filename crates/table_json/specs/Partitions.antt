-- The partitions of a text. This project's own; the places of the fields in a partition's two
-- words are of the RP2350 Datasheet, chapter 5, Bootrom.
use Rattle.std.specs.Prelude.{ℕ, Bool, false, ◌+◌, ◌*◌, List, [], ◌∷◌, ◌++◌, length, is_some}
use Rattle.std.specs.Prelude.{Option, None, Some, option_map, Result, Ok}
use Rattle.arrayvec.specs.ArrayVec.{ArrayVec}
use Rattle.serde_json.specs.Data.{Data}
use Rattle.serde_json.specs.Find.{as_bool}
use Rattle.part_table.specs.declared.partition.Partition.{Partition}
use Rattle.table_json.specs.declared.families.Families.{Families}
use Rattle.table_json.specs.declared.fault.Place.TheVariants.{Unpartitioned as Outside, Partition as Numbered}
use Rattle.table_json.specs.declared.fault.Field.TheVariants.{Families as OfFamilies, Permissions, First, Last, Id, Name, Link, IgnoreArm, IgnoreRiscv, NoReboot}
use Rattle.table_json.specs.declared.fault.JsonFault.{JsonFault}
use Rattle.table_json.specs.declared.members.Shape.TheVariants.{OfUnpartitioned, OfPartition}
use Rattle.table_json.specs.Steps.{◌>>=◌}
use Rattle.table_json.specs.Members.{object_judged, required, optional}
use Rattle.table_json.specs.Forms.{number_in, number_below, name_form, link_form, permissions_form}
use Rattle.table_json.specs.Families.{bit_if, names_form, families_form, no_families}

-- a location word: bits 0 to 12 the first sector, 13 to 25 the last, 26 to 31 the permissions
abbrev pub location_word : ℕ → ℕ → ℕ → ℕ
location_word first last permissions = first + 8192 * last + 67108864 * permissions

-- bits 9, 10 and 13 of a flag word: ignored in an Arm boot, ignored in a RISC-V boot, no reboot
abbrev pub marks_word : Bool → Bool → Bool → ℕ
marks_word arm riscv stays = bit_if arm 512 + bit_if riscv 1024 + bit_if stays 8192

-- a flag word:
-- - bit 0: there is an id
-- - bits 1 to 6: the link
-- - bits 7 to 8: the number of extra families
-- - bits 9, 10 and 13: the marks
-- - bit 12: there is a name
-- - bits 14 to 19: the families by name
-- - bits 26 to 31: the permissions
abbrev pub flag_word : Bool → ℕ → ℕ → ℕ → Bool → ℕ → ℕ → ℕ
flag_word has_id link extra marks has_name bits permissions =
    bit_if has_id 1 + link + 128 * extra + marks + bit_if has_name 4096 + 16384 * bits
    + 67108864 * permissions

-- a partition of these parts
abbrev pub made_partition : ℕ → ℕ → Option ℕ → Families → Option (ArrayVec ℕ) → Partition
made_partition at flag_bits number extra text = record {
  location = at;
  flags = flag_bits;
  id = number;
  families = extra.numbers;
  name = text;
}

abbrev pub partition_from_fields : ℕ → Families → ℕ → Option ℕ → Option (ArrayVec ℕ) → ℕ → ℕ
    → Partition
partition_from_fields at families permissions id name link marks =
    made_partition at
    (flag_word (is_some id) link (length families.numbers.items) marks (is_some name)
    families.bits permissions)
    id families name

-- an id or a name that is there
abbrev pub id_form : Data → Option (Option ℕ)
id_form d = option_map Some (number_in d)

abbrev pub some_name : Data → Option (Option (ArrayVec ℕ))
some_name d = option_map Some (name_form d)

-- the marks of a partition, in their order
abbrev pub marks_of : ℕ → Data → Result ℕ JsonFault
marks_of i d = do
  arm ← optional as_bool false (Numbered i) IgnoreArm d
  riscv ← optional as_bool false (Numbered i) IgnoreRiscv d
  stays ← optional as_bool false (Numbered i) NoReboot d
  Ok (marks_word arm riscv stays)

-- partition i of a text: its object is judged first, then its members in this order
abbrev pub partition_of_value : ℕ → Data → Result Partition JsonFault
partition_of_value i d = do
  judged ← object_judged OfPartition (Numbered i) OfFamilies d
  first ← required (number_below 8192) (Numbered i) First d
  last ← required (number_below 8192) (Numbered i) Last d
  families ← optional families_form no_families (Numbered i) OfFamilies d
  permissions ← required permissions_form (Numbered i) Permissions d
  id ← optional id_form None (Numbered i) Id d
  name ← optional some_name None (Numbered i) Name d
  link ← optional link_form 0 (Numbered i) Link d
  marks ← marks_of i d
  Ok (partition_from_fields (location_word first last permissions) families permissions id name
      link marks)

-- the partitions of a list, in order, after those that were read before
abbrev pub partitions_after : List Partition → List Data → Result (ArrayVec Partition) JsonFault
partitions_after done [] = Ok (record { items = done })
partitions_after done (d ∷ ds) =
    partition_of_value (length done) d >>= (λ part. partitions_after (done ++ part ∷ []) ds)

-- the word for the sectors that no partition has: bits 14 to 19 the families, 26 to 31 the
-- permissions
abbrev pub unpartitioned_of : Data → Result ℕ JsonFault
unpartitioned_of d = do
  judged ← object_judged OfUnpartitioned Outside OfFamilies d
  bits ← optional names_form 0 Outside OfFamilies d
  permissions ← required permissions_form Outside Permissions d
  Ok (16384 * bits + 67108864 * permissions)
