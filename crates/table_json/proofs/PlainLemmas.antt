-- What is said of a value is neither NotJson nor Memory.
use Rattle.std.proofs.Common.{◌≡◌, ◌≢◌, ℕ, Bool, true, false, List, [], ◌∷◌, ◌++◌, length, Option, None, Some, Result, Ok, Err, ok_or, refl, ap, ◌∙◌, if◌then◌else◌, nat_lt}
use Rattle.std.specs.Bool.{⊤}
use Rattle.serde_json.specs.Data.{Data, Members}
use Rattle.serde_json.specs.Find.{get, as_object, as_bool}
use Rattle.part_table.specs.declared.partition.Partition.{Partition}
use Rattle.part_table.specs.declared.table.Table.{Table}
use Rattle.part_table.specs.declared.table.TableFault.{TableFault}
use Rattle.part_table.specs.Faults.{table_fault}
use Rattle.part_table.specs.Written.{written_size}
use Rattle.table_json.specs.declared.fault.Place.{Place}
use Rattle.table_json.specs.declared.fault.Field.{Field}
use Rattle.table_json.specs.declared.fault.JsonFault.{JsonFault}
use Rattle.table_json.specs.declared.fault.JsonFault.TheVariants.{NotJson, Memory, Unknown, Missing, Value, TooLong, Table as Faulty}
use Rattle.table_json.specs.declared.members.Shape.{Shape}
use Rattle.table_json.specs.Steps.{◌>>=◌}
use Rattle.table_json.specs.Members.{member_name, has_unknown, object_judged_as, object_judged, required_in, required, optional_in, optional}
use Rattle.table_json.specs.declared.fault.Place.TheVariants.{Top, Unpartitioned as Outside, Partition as Numbered}
use Rattle.table_json.specs.declared.fault.Field.TheVariants.{Version as OfVersion, Singleton, Unpartitioned, Partitions, Families as OfFamilies, Permissions, First, Last, Id, Name, Link, IgnoreArm, IgnoreRiscv, NoReboot, Processor, Rollback, Rows, Trial, RollbackRequired, FlashOff, SlotSize, SecureBoot}
use Rattle.table_json.specs.declared.members.Shape.TheVariants.{OfTable, OfUnpartitioned, OfPartition, OfSpec, OfOtp}
use Rattle.table_json.specs.Forms.{number_below, version_form, link_form, permissions_form}
use Rattle.table_json.specs.Families.{names_form, families_form, no_families}
use Rattle.table_json.specs.Partitions.{id_form, some_name, marks_word, marks_of, partition_of_value, partitions_after, unpartitioned_of}
use Rattle.table_json.specs.Seals.{processor_form, rollback_form, rows_form, no_rows, spec_from}
use Rattle.table_json.specs.Otps.{size_form, pairs_form, otp_from}
use Rattle.table_json.specs.Tables.{no_version, few_form, table_fields, unless_faulty, judged, table_of_value}

-- an answer that is neither, and no fault of a whole table
pub record IsPlain {A : Type 0} (r : Result A JsonFault) : Type 0 where
  pub json : r ≢ Err NotJson
  pub memory : r ≢ Err Memory
  pub table : (fault : TableFault) → r ≢ Err (Faulty fault)

ok_plain : {A : Type 0} (a : A) → IsPlain (Ok a)
ok_plain a = record { json = λ e. cc; memory = λ e. cc; table = λ f e. cc }

unknown_plain : {A : Type 0} (place : Place) → IsPlain {A = A} (Err (Unknown place))
unknown_plain place = record { json = λ e. cc; memory = λ e. cc; table = λ f e. cc }

missing_plain : {A : Type 0} (place : Place) (field : Field) → IsPlain {A = A} (Err (Missing place field))
missing_plain place field = record { json = λ e. cc; memory = λ e. cc; table = λ f e. cc }

value_plain : {A : Type 0} (place : Place) (field : Field) → IsPlain {A = A} (Err (Value place field))
value_plain place field = record { json = λ e. cc; memory = λ e. cc; table = λ f e. cc }

-- a step and the one after it
then_plain : {A B : Type 0} (r : Result A JsonFault) (next : A → Result B JsonFault) → IsPlain r
    → ((a : A) → IsPlain (next a)) → IsPlain (r >>= next)
then_plain (Ok a) next first later = later a
then_plain (Err fault) next first later = record {
  json = λ e. first.json (let same : fault ≡ NotJson = cc in cc);
  memory = λ e. first.memory (let same : fault ≡ Memory = cc in cc);
  table = λ f e. first.table f (let same : fault ≡ Faulty f = cc in cc);
}

formed_plain : {A : Type 0} (read : Option A) (place : Place) (field : Field) → IsPlain (ok_or read (Value place field))
formed_plain None place field = value_plain place field
formed_plain (Some a) place field = ok_plain a

required_plain_in : {A : Type 0} (form : Data → Option A) (place : Place) (field : Field) (found : Option Data)
    → IsPlain (required_in form place field found)
required_plain_in form place field None = missing_plain place field
required_plain_in form place field (Some d) = formed_plain (form d) place field

optional_plain_in : {A : Type 0} (form : Data → Option A) (default : A) (place : Place) (field : Field)
    (found : Option Data)
    → IsPlain (optional_in form default place field found)
optional_plain_in form default place field None = ok_plain default
optional_plain_in form default place field (Some d) = formed_plain (form d) place field

members_plain : (unknown : Bool) (place : Place) → IsPlain (if unknown then Err (Unknown place) else Ok (tt {0}))
members_plain true place = unknown_plain place
members_plain false place = ok_plain (tt {0})

object_plain_as : (shape : Shape) (place : Place) (field : Field) (found : Option Members)
    → IsPlain (object_judged_as shape place field found)
object_plain_as shape place field None = value_plain place field
object_plain_as shape place field (Some ms) = members_plain (has_unknown shape ms) place

-- a step of each kind, and the one after it
object_then : {B : Type 0} (shape : Shape) (place : Place) (field : Field) (d : Data) (next : ⊤ → Result B JsonFault)
    → ((a : ⊤) → IsPlain (next a)) → IsPlain (object_judged shape place field d >>= next)
object_then shape place field d next later = then_plain _ next (object_plain_as shape place field (as_object d)) later

required_then : {A B : Type 0} (form : Data → Option A) (place : Place) (field : Field) (d : Data)
    (next : A → Result B JsonFault) → ((a : A) → IsPlain (next a)) → IsPlain (required form place field d >>= next)
required_then form place field d next later =
    then_plain (required form place field d) next (required_plain_in form place field (get (member_name field) d)) later

optional_then : {A B : Type 0} (form : Data → Option A) (default : A) (place : Place) (field : Field) (d : Data)
    (next : A → Result B JsonFault) → ((a : A) → IsPlain (next a))
    → IsPlain (optional form default place field d >>= next)
optional_then form default place field d next later =
    then_plain (optional form default place field d) next
    (optional_plain_in form default place field (get (member_name field) d)) later

marks_plain : (i : ℕ) (d : Data) → IsPlain (marks_of i d)
marks_plain i d =
    optional_then as_bool false (Numbered i) IgnoreArm d _
    (λ arm. optional_then as_bool false (Numbered i) IgnoreRiscv d _
    (λ riscv. optional_then as_bool false (Numbered i) NoReboot d _ (λ stays. ok_plain (marks_word arm riscv stays))))

partition_plain : (i : ℕ) (d : Data) → IsPlain (partition_of_value i d)
partition_plain i d =
    object_then OfPartition (Numbered i) OfFamilies d _
    (λ judged. required_then (number_below 8192) (Numbered i) First d _
    (λ first. required_then (number_below 8192) (Numbered i) Last d _
    (λ last. optional_then families_form no_families (Numbered i) OfFamilies d _
    (λ families. required_then permissions_form (Numbered i) Permissions d _
    (λ permissions. optional_then id_form None (Numbered i) Id d _
    (λ id. optional_then some_name None (Numbered i) Name d _
    (λ name. optional_then link_form 0 (Numbered i) Link d _
    (λ link. then_plain (marks_of i d) _ (marks_plain i d) (λ marks. ok_plain _)))))))))

partitions_plain : (done : List Partition) (ds : List Data) → IsPlain (partitions_after done ds)
partitions_plain done [] = ok_plain (record { items = done })
partitions_plain done (d ∷ ds) =
    then_plain (partition_of_value (length done) d) _ (partition_plain (length done) d)
    (λ part. partitions_plain (done ++ part ∷ []) ds)

unpartitioned_plain : (d : Data) → IsPlain (unpartitioned_of d)
unpartitioned_plain d =
    object_then OfUnpartitioned Outside OfFamilies d _
    (λ judged. optional_then names_form 0 Outside OfFamilies d _
    (λ bits. required_then permissions_form Outside Permissions d _ (λ permissions. ok_plain _)))

pub fields_plain : (d : Data) → IsPlain (table_fields d)
fields_plain d =
    object_then OfTable Top Partitions d _
    (λ judged. optional_then version_form no_version Top OfVersion d _
    (λ version. optional_then as_bool false Top Singleton d _
    (λ singleton. required_then Some Top Unpartitioned d _
    (λ unpartitioned. required_then few_form Top Partitions d _
    (λ partitions. then_plain (unpartitioned_of unpartitioned) _ (unpartitioned_plain unpartitioned)
    (λ word. then_plain (partitions_after [] partitions) _ (partitions_plain [] partitions) (λ parts. ok_plain _)))))))

-- what the judgement of a whole table says
pub data IsJudged (t : Table) : Result Table JsonFault → Type 0 where
  long : IsJudged t (Err (TooLong (written_size t)))
  faulty : (fault : TableFault) → table_fault t 4096 2 ≡ Some fault → IsJudged t (Err (Faulty fault))
  good : IsJudged t (Ok t)

pub judged_so : (t : Table) → IsJudged t (judged t)
judged_so t = by_size (nat_lt 640 (written_size t)) (table_fault t 4096 2) refl
  where
    by_size : (size : Bool) (found : Option TableFault) → table_fault t 4096 2 ≡ found
        → IsJudged t (if size then Err (TooLong (written_size t)) else unless_faulty t found)
    by_size true found is = long
    by_size false None is = good
    by_size false (Some fault) is = faulty fault is

-- an answer of a whole table is neither NotJson nor Memory
pub table_json : (d : Data) → table_of_value d ≢ Err NotJson
table_json d = whole (table_fields d) (fields_plain d)
  where
    of_table : (t : Table) (r : Result Table JsonFault) → IsJudged t r → r ≢ Err NotJson
    of_table t r long = λ e. cc
    of_table t r (faulty fault is) = λ e. cc
    of_table t r good = λ e. cc

    whole : (r : Result Table JsonFault) → IsPlain r → (r >>= judged) ≢ Err NotJson
    whole (Ok t) plain = of_table t (judged t) (judged_so t)
    whole (Err fault) plain = plain.json

pub table_memory : (d : Data) → table_of_value d ≢ Err Memory
table_memory d = whole (table_fields d) (fields_plain d)
  where
    of_table : (t : Table) (r : Result Table JsonFault) → IsJudged t r → r ≢ Err Memory
    of_table t r long = λ e. cc
    of_table t r (faulty fault is) = λ e. cc
    of_table t r good = λ e. cc

    whole : (r : Result Table JsonFault) → IsPlain r → (r >>= judged) ≢ Err Memory
    whole (Ok t) plain = of_table t (judged t) (judged_so t)
    whole (Err fault) plain = plain.memory

-- a fault of a whole table is that of its fields
pub table_fault_of : (d : Data) (fault : TableFault) → table_of_value d ≡ Err (Faulty fault)
    → (t : Table) × (table_fields d ≡ Ok t) × (table_fault t 4096 2 ≡ Some fault)
table_fault_of d fault is = whole (table_fields d) refl is
  where
    of_table : (t : Table) (r : Result Table JsonFault) → IsJudged t r → r ≡ Err (Faulty fault)
        → table_fault t 4096 2 ≡ Some fault
    of_table t r long is = cc
    of_table t r (faulty found there) is = there ∙ (let same : found ≡ fault = cc in ap Some same)
    of_table t r good is = cc

    whole : (r : Result Table JsonFault) → table_fields d ≡ r → (r >>= judged) ≡ Err (Faulty fault)
        → (t : Table) × (table_fields d ≡ Ok t) × (table_fault t 4096 2 ≡ Some fault)
    whole (Ok t) same is = (t, same, of_table t (judged t) (judged_so t) is)
    whole (Err other) same is = absurd ((fields_plain d).table fault (same ∙ is))

pub spec_plain : (d : Data) → IsPlain (spec_from d)
spec_plain d =
    object_then OfSpec Top Processor d _
    (λ judged. required_then processor_form Top Processor d _
    (λ cpu. optional_then version_form no_version Top OfVersion d _
    (λ version. optional_then rollback_form None Top Rollback d _
    (λ rollback. optional_then rows_form no_rows Top Rows d _
    (λ rows. optional_then as_bool false Top Trial d _ (λ trial. ok_plain _))))))

pub otp_plain : (d : Data) → IsPlain (otp_from d)
otp_plain d =
    object_then OfOtp Top RollbackRequired d _
    (λ judged. optional_then as_bool false Top RollbackRequired d _
    (λ required. optional_then as_bool false Top FlashOff d _
    (λ off. optional_then size_form 0 Top SlotSize d _
    (λ exponent. optional_then pairs_form [] Top Rows d _
    (λ rows. optional_then as_bool false Top SecureBoot d _ (λ secure. ok_plain _))))))
