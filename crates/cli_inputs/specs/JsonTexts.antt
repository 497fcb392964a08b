-- The texts that name a fault of a JSON text.
use Rattle.std.specs.Prelude.{ℕ, List, ◌++◌, codes, decimal}
use Rattle.part_table.specs.declared.table.TableFault.{TableFault}
use Rattle.part_table.specs.declared.table.TableFault.TheVariants.{BadItem, Permissions, Range, Overlap, Link, Hash}
use Rattle.table_json.specs.declared.fault.Place.{Place}
use Rattle.table_json.specs.declared.fault.Place.TheVariants.{Top, Unpartitioned, Partition as Numbered}
use Rattle.table_json.specs.declared.fault.Field.{Field}
use Rattle.table_json.specs.declared.fault.JsonFault.{JsonFault}
use Rattle.table_json.specs.declared.fault.JsonFault.TheVariants.{NotJson, Unknown, Missing, Value, TooLong, Table as Faulty, Memory}
use Rattle.table_json.specs.Members.{member_name}

-- an object of a text
abbrev pub object_text : Place → List ℕ
object_text Top = codes "top"
object_text Unpartitioned = codes "unpartitioned"
object_text (Numbered i) = codes "partition " ++ decimal i

-- a member of an object, by its name
abbrev pub json_member_text : Place → Field → List ℕ
json_member_text place field = object_text place ++ (codes " " ++ member_name field)

-- the fault of a table
abbrev pub table_fault_text : TableFault → List ℕ
table_fault_text BadItem = codes "bad-item"
table_fault_text (Permissions i) = codes "permissions " ++ decimal i
table_fault_text (Range i) = codes "range " ++ decimal i
table_fault_text (Overlap i j) = codes "overlap " ++ (decimal i ++ (codes " " ++ decimal j))
table_fault_text (Link i) = codes "link " ++ decimal i
table_fault_text Hash = codes "hash"

-- the fault of a text; the last one is never the fault of a text
abbrev pub json_text : JsonFault → List ℕ
json_text NotJson = codes "not-json"
json_text (Unknown place) = codes "unknown " ++ object_text place
json_text (Missing place field) = codes "missing " ++ json_member_text place field
json_text (Value place field) = codes "value " ++ json_member_text place field
json_text (TooLong size) = codes "too-long " ++ decimal size
json_text (Faulty fault) = codes "table " ++ table_fault_text fault
json_text Memory = codes "memory"
