-- What a partition says, by the fields of its words, next to what its text says.
use Rattle.std.specs.Prelude.{◌≡◌, ℕ, ◌+◌, ◌*◌, ◌/◌, ◌%◌, ◌^◌, false, None, Ok}
use Rattle.serde_json.specs.Data.{Data}
use Rattle.serde_json.specs.Find.{as_bool}
use Rattle.pico_board.specs.declared.boot.Cpu.TheVariants.{Arm, Riscv}
use Rattle.part_table.specs.declared.partition.Partition.{Partition}
use Rattle.part_table.specs.Fields.{first_sector, last_sector, permissions_of, link_type, link_value, is_ignored, is_staying}
use Rattle.table_json.specs.declared.fault.Place.TheVariants.{Partition as Numbered}
use Rattle.table_json.specs.declared.fault.Field.TheVariants.{Families, Permissions, First, Last, Id, Name, Link, IgnoreArm, IgnoreRiscv, NoReboot}
use Rattle.table_json.specs.Members.{required, optional}
use Rattle.table_json.specs.Forms.{number_below, link_form, permissions_form}
use Rattle.table_json.specs.Families.{families_form, families_with, no_families}
use Rattle.table_json.specs.Partitions.{id_form, some_name}

-- each member of partition i of a text says what the partition's field says
pub record SaysText (i : ℕ) (d : Data) (p : Partition) : Type 0 where
  pub first : required (number_below 8192) (Numbered i) First d ≡ Ok (first_sector p)
  pub last : required (number_below 8192) (Numbered i) Last d ≡ Ok (last_sector p)
  -- bits 14 to 19 of the flag word are the families by name
  pub families : optional families_form no_families (Numbered i) Families d
      ≡ Ok (families_with (p.flags / 2 ^ 14 % 2 ^ 6) p.families)
  pub permissions : required permissions_form (Numbered i) Permissions d
      ≡ Ok (permissions_of p.location)
  pub again : permissions_of p.flags ≡ permissions_of p.location
  pub id : optional id_form None (Numbered i) Id d ≡ Ok p.id
  pub name : optional some_name None (Numbered i) Name d ≡ Ok p.name
  pub link : optional link_form 0 (Numbered i) Link d ≡ Ok (2 * link_type p + 8 * link_value p)
  pub arm : optional as_bool false (Numbered i) IgnoreArm d ≡ Ok (is_ignored Arm p)
  pub riscv : optional as_bool false (Numbered i) IgnoreRiscv d ≡ Ok (is_ignored Riscv p)
  pub stays : optional as_bool false (Numbered i) NoReboot d ≡ Ok (is_staying p)
