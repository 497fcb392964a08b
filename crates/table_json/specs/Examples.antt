-- Worked examples of texts, with their answers worked out by hand from the rules.
use Rattle.std.specs.Prelude.{ℕ, zero, suc, false, List, [], ◌++◌, ◌+◌, codes, replicate, Option, None, Some, option_map, Result, Ok, Err}
use Rattle.pico_board.specs.declared.boot.Cpu.{Cpu}
use Rattle.serde_json.specs.Read.{read}
use Rattle.image_pack.specs.declared.spec.SealSpec.{SealSpec}
use Rattle.part_table.specs.declared.partition.Partition.{Partition}
use Rattle.part_table.specs.declared.table.Table.{Table}
use Rattle.part_table.specs.Examples.{partition_with}
use Rattle.table_json.specs.declared.fault.Field.{Field}
use Rattle.table_json.specs.declared.fault.JsonFault.{JsonFault}
use Rattle.table_json.specs.declared.fault.JsonFault.TheVariants.{Value, Missing}
use Rattle.table_json.specs.declared.fault.Place.TheVariants.{Top, Unpartitioned, Partition as Numbered}
use Rattle.table_json.specs.Partitions.{partition_of_value}
use Rattle.table_json.specs.Tables.{table_of_value}
use Rattle.table_json.specs.Otps.{OtpView, otp_from}
use Rattle.table_json.specs.Seals.{spec_from, spec_with}

-- what is said of the value of a text, as a table, as partition 0, as a spec, and as an OTP
abbrev pub table_said : List ℕ → Option (Result Table JsonFault)
table_said text = option_map table_of_value (read text)

abbrev pub first_partition_in : List ℕ → Option (Result Partition JsonFault)
first_partition_in text = option_map (partition_of_value 0) (read text)

abbrev pub spec_in : List ℕ → Option (Result SealSpec JsonFault)
spec_in text = option_map spec_from (read text)

abbrev pub otp_said : List ℕ → Option (Result OtpView JsonFault)
otp_said text = option_map otp_from (read text)

-- a member that gives all rights
abbrev pub all_rights : List ℕ
all_rights =
    codes "\"permissions\":{\"secure\":\"rw\",\"nonsecure\":\"rw\",\"bootloader\":\"rw\"}"

-- a member that gives these rights
abbrev pub rights : List ℕ → List ℕ → List ℕ → List ℕ
rights secure nonsecure bootloader =
    codes "\"permissions\":{\"secure\":\"" ++ secure ++ codes "\",\"nonsecure\":\"" ++ nonsecure
    ++ codes "\",\"bootloader\":\"" ++ bootloader ++ codes "\"}"

-- a partition of these sectors with all rights and these further members
abbrev pub part : List ℕ → List ℕ → List ℕ → List ℕ
part first last more =
    codes "{\"first\":" ++ first ++ codes ",\"last\":" ++ last ++ codes "," ++ all_rights ++ more
    ++ codes "}"

-- what is said of the partition of the sectors 2 to 3 with all rights and these further members
abbrev pub part_and : List ℕ → Option (Result Partition JsonFault)
part_and more = first_partition_in (part (codes "2") (codes "3") more)

-- what is said of the partition of sector 0 with these further members
abbrev pub partition_with_members : List ℕ → Option (Result Partition JsonFault)
partition_with_members more = first_partition_in
    (codes "{\"first\":0,\"last\":0," ++ more ++ codes "}")

-- a table of these partitions; its unpartitioned sectors have all rights and accept the absolute
-- family
abbrev pub table_of_parts : List ℕ → List ℕ
table_of_parts parts =
    codes "{\"unpartitioned\":{\"families\":[\"absolute\"]," ++ all_rights
    ++ codes "},\"partitions\":["
    ++ parts
    ++ codes "]}"

-- the partition of the sectors 2 to 3 with all rights and this further in its flag word
abbrev pub flagged_partition : ℕ → Option (Result Partition JsonFault)
flagged_partition more = Some (Ok (partition_with (0xfc000000 + more) None [] None))

-- answers that are a fault
abbrev pub part_value : Field → Option (Result Partition JsonFault)
part_value field = Some (Err (Value (Numbered 0) field))

abbrev pub part_missing : Field → Option (Result Partition JsonFault)
part_missing field = Some (Err (Missing (Numbered 0) field))

abbrev pub top_value : {A : Type 0} → Field → Option (Result A JsonFault)
top_value field = Some (Err (Value Top field))

abbrev pub top_missing : {A : Type 0} → Field → Option (Result A JsonFault)
top_missing field = Some (Err (Missing Top field))

abbrev pub outside_value : Field → Option (Result Table JsonFault)
outside_value field = Some (Err (Value Unpartitioned field))

-- a name of n bytes
abbrev pub name_member : ℕ → List ℕ
name_member n = codes ",\"name\":\"" ++ replicate n 97 ++ codes "\""

-- a member n times, with a comma after each
abbrev pub member_times : ℕ → List ℕ → List ℕ
member_times zero one = []
member_times (suc n) one = one ++ codes "," ++ member_times n one

-- a list of a member n + 1 times
abbrev pub list_of : ℕ → List ℕ → List ℕ
list_of n one = codes "[" ++ member_times n one ++ one ++ codes "]"

-- lists in one another, n deep
abbrev pub nested : ℕ → List ℕ
nested n = replicate n 91 ++ replicate n 93

-- a spec of version 0.0 without a trial
abbrev pub plain_spec : Cpu → Option ℕ → List ℕ → Option (Result SealSpec JsonFault)
plain_spec cpu version rows =
    Some
    (Ok (spec_with cpu (record { major = 0; minor = 0 }) version (record { items = rows }) false))

-- a table of a version, without partitions; its unpartitioned sectors have all rights
abbrev pub versioned : ℕ → ℕ → Table
versioned high low = record {
  version = record { major = high; minor = low };
  singleton = false;
  unpartitioned = 0xfc000000;
  parts = record { items = [] };
}
