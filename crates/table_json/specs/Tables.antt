-- The table of a text.
use Rattle.std.specs.Prelude.{ℕ, Bool, false, if◌then◌else◌, List, [], length, nat_lt, nat_le}
use Rattle.std.specs.Prelude.{Option, None, Some, option_and_then, Result, Ok, Err}
use Rattle.arrayvec.specs.ArrayVec.{ArrayVec}
use Rattle.block_codec.specs.declared.versions.Version.{Version}
use Rattle.serde_json.specs.Data.{Data}
use Rattle.serde_json.specs.Find.{as_bool}
use Rattle.part_table.specs.declared.partition.Partition.{Partition}
use Rattle.part_table.specs.declared.table.Table.{Table}
use Rattle.part_table.specs.declared.table.TableFault.{TableFault}
use Rattle.part_table.specs.Faults.{table_fault}
use Rattle.part_table.specs.Written.{written_size}
use Rattle.table_json.specs.declared.fault.Place.TheVariants.{Top}
use Rattle.table_json.specs.declared.fault.Field.TheVariants.{Version as OfVersion, Singleton, Unpartitioned, Partitions}
use Rattle.table_json.specs.declared.fault.JsonFault.{JsonFault}
use Rattle.table_json.specs.declared.fault.JsonFault.TheVariants.{TooLong, Table as Faulty}
use Rattle.table_json.specs.declared.members.Shape.TheVariants.{OfTable}
use Rattle.table_json.specs.Steps.{◌>>=◌}
use Rattle.table_json.specs.Members.{object_judged, required, optional}
use Rattle.table_json.specs.Forms.{values_in, version_form}
use Rattle.table_json.specs.Partitions.{partitions_after, unpartitioned_of}

-- the version of a text without one
abbrev pub no_version : Version
no_version = record { major = 0; minor = 0 }

-- at most 15 values
abbrev pub if_few : List Data → Option (List Data)
if_few ds = if nat_le (length ds) 15 then Some ds else None

abbrev pub few_form : Data → Option (List Data)
few_form d = option_and_then if_few (values_in d)

-- a table of these parts
abbrev pub table_with_fields : Version → Bool → ℕ → ArrayVec Partition → Table
table_with_fields number alone word partitions =
    record { version = number; singleton = alone; unpartitioned = word; parts = partitions }

-- the fields of a table: its object is judged first; then its members in this order; then what is
-- said of the unpartitioned sectors; then the partitions in order
abbrev pub table_fields : Data → Result Table JsonFault
table_fields d = do
  judged ← object_judged OfTable Top Partitions d
  version ← optional version_form no_version Top OfVersion d
  singleton ← optional as_bool false Top Singleton d
  unpartitioned ← required Some Top Unpartitioned d
  partitions ← required few_form Top Partitions d
  word ← unpartitioned_of unpartitioned
  parts ← partitions_after [] partitions
  Ok (table_with_fields version singleton word parts)

-- a table whose partitions have no fault
abbrev pub unless_faulty : Table → Option TableFault → Result Table JsonFault
unless_faulty t None = Ok t
unless_faulty t (Some fault) = Err (Faulty fault)

-- a table is TooLong where its block would have more than 640 bytes; else it has the first fault
-- of its partitions in a flash of 4096 sectors; the first two are not free
abbrev pub judged : Table → Result Table JsonFault
judged t =
    if nat_lt 640 (written_size t) then Err (TooLong (written_size t))
    else unless_faulty t (table_fault t 4096 2)

-- the table of a text's value, or its first fault
abbrev pub table_of_value : Data → Result Table JsonFault
table_of_value d = table_fields d >>= judged
