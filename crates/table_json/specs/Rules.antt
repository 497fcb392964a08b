-- The rules of a text as one list, in the order in which they are judged. Each rule has the fault
-- of a text that breaks it. Tables, Seals and Otps say the same as functions.
use Rattle.std.specs.Prelude.{ℕ, Bool, false, if◌then◌else◌, ◌+◌, List, [], ◌∷◌, ◌++◌, is_none}
use Rattle.std.specs.Prelude.{Option, None, Some, option_and_then}
use Rattle.std.specs.Option.{option_map_or}
use Rattle.serde_json.specs.Data.{Data}
use Rattle.serde_json.specs.Find.{get, as_object, as_bool}
use Rattle.table_json.specs.declared.fault.Place.{Place}
use Rattle.table_json.specs.declared.fault.Place.TheVariants.{Top, Unpartitioned as Outside, Partition as Numbered}
use Rattle.table_json.specs.declared.fault.Field.{Field}
use Rattle.table_json.specs.declared.fault.Field.TheVariants.{Version, Singleton, Unpartitioned, Families, Permissions, Partitions, First, Last, Id, Name, Link, IgnoreArm, IgnoreRiscv, NoReboot, Processor, Rollback, Rows, Trial, RollbackRequired, FlashOff, SlotSize, SecureBoot}
use Rattle.table_json.specs.declared.fault.JsonFault.{JsonFault}
use Rattle.table_json.specs.declared.fault.JsonFault.TheVariants.{Unknown, Missing, Value}
use Rattle.table_json.specs.declared.members.Shape.{Shape}
use Rattle.table_json.specs.declared.members.Shape.TheVariants.{OfTable, OfUnpartitioned, OfPartition, OfSpec, OfOtp}
use Rattle.table_json.specs.Members.{member_name, has_unknown}
use Rattle.table_json.specs.Forms.{number_below, version_form, link_form, permissions_form}
use Rattle.table_json.specs.Families.{names_form, families_form}
use Rattle.table_json.specs.Partitions.{id_form, some_name}
use Rattle.table_json.specs.Tables.{few_form}
use Rattle.table_json.specs.Seals.{processor_form, rollback_form, rows_form}
use Rattle.table_json.specs.Otps.{size_form, pairs_form}

-- a rule, whether it is broken, and the fault of a text that breaks it
pub record Rule : Type 0 where
  pub broken : Bool
  pub fault : JsonFault

abbrev pub rule : Bool → JsonFault → Rule
rule is_broken of_fault = record { broken = is_broken; fault = of_fault }

-- the fault of the first rule that is broken
abbrev pub first_broken : List Rule → Option JsonFault
first_broken [] = None
first_broken (r ∷ rs) = if r.broken then Some r.fault else first_broken rs

-- a member is absent
abbrev pub is_absent : Field → Data → Bool
is_absent field d = is_none (get (member_name field) d)

-- a member is there and has another form
abbrev pub has_other_form : {A : Type 0} → (Data → Option A) → Field → Data → Bool
has_other_form form field d = option_map_or (λ x. is_none (form x))
    (get (member_name field) d) false

-- an object is one, and each of its members is listed
abbrev pub object_rules : Shape → Place → Field → Data → List Rule
object_rules shape place field d =
    rule (is_none (as_object d)) (Value place field)
    ∷ rule (option_map_or (has_unknown shape) (as_object d) false) (Unknown place)
    ∷ []

-- a required member is there, and has its form
abbrev pub required_rules : {A : Type 0} → (Data → Option A) → Place → Field → Data → List Rule
required_rules form place field d =
    rule (is_absent field d) (Missing place field)
    ∷ rule (has_other_form form field d) (Value place field)
    ∷ []

-- an optional member has its form where it is there
abbrev pub optional_rules : {A : Type 0} → (Data → Option A) → Place → Field → Data → List Rule
optional_rules form place field d = rule (has_other_form form field d) (Value place field) ∷ []

-- the rules of partition i
abbrev pub partition_rules : ℕ → Data → List Rule
partition_rules i d =
    object_rules OfPartition (Numbered i) Families d
    ++ required_rules (number_below 8192) (Numbered i) First d
    ++ required_rules (number_below 8192) (Numbered i) Last d
    ++ optional_rules families_form (Numbered i) Families d
    ++ required_rules permissions_form (Numbered i) Permissions d
    ++ optional_rules id_form (Numbered i) Id d
    ++ optional_rules some_name (Numbered i) Name d
    ++ optional_rules link_form (Numbered i) Link d
    ++ optional_rules as_bool (Numbered i) IgnoreArm d
    ++ optional_rules as_bool (Numbered i) IgnoreRiscv d
    ++ optional_rules as_bool (Numbered i) NoReboot d

-- the rules of partitions, the first of which has the number i
abbrev pub partitions_rules : ℕ → List Data → List Rule
partitions_rules i [] = []
partitions_rules i (d ∷ ds) = partition_rules i d ++ partitions_rules (i + 1) ds

-- the rules of what is said of the unpartitioned sectors
abbrev pub unpartitioned_rules : Data → List Rule
unpartitioned_rules d =
    object_rules OfUnpartitioned Outside Families d
    ++ optional_rules names_form Outside Families d
    ++ required_rules permissions_form Outside Permissions d

-- the rules of the top object of a table
abbrev pub top_rules : Data → List Rule
top_rules d =
    object_rules OfTable Top Partitions d
    ++ optional_rules version_form Top Version d
    ++ optional_rules as_bool Top Singleton d
    ++ required_rules Some Top Unpartitioned d
    ++ required_rules few_form Top Partitions d

-- the rules of what is there
abbrev pub rules_if : {A : Type 0} → (A → List Rule) → Option A → List Rule
rules_if rules None = []
rules_if rules (Some a) = rules a

-- the rules of a table: those of the top object; then those of what is said of the unpartitioned
-- sectors; then those of the partitions in order
abbrev pub table_rules : Data → List Rule
table_rules d =
    top_rules d
    ++ (rules_if unpartitioned_rules (get (member_name Unpartitioned) d)
    ++ rules_if (partitions_rules 0) (option_and_then few_form (get (member_name Partitions) d)))

-- the rules of a spec
abbrev pub spec_rules : Data → List Rule
spec_rules d =
    object_rules OfSpec Top Processor d
    ++ required_rules processor_form Top Processor d
    ++ optional_rules version_form Top Version d
    ++ optional_rules rollback_form Top Rollback d
    ++ optional_rules rows_form Top Rows d
    ++ optional_rules as_bool Top Trial d

-- the rules of an OTP
abbrev pub otp_rules : Data → List Rule
otp_rules d =
    object_rules OfOtp Top RollbackRequired d
    ++ optional_rules as_bool Top RollbackRequired d
    ++ optional_rules as_bool Top FlashOff d
    ++ optional_rules size_form Top SlotSize d
    ++ optional_rules pairs_form Top Rows d
    ++ optional_rules as_bool Top SecureBoot d
