-- The members of the objects of a text.
use Rattle.std.specs.Prelude.{ℕ, Bool, false, ◌||◌, not, if◌then◌else◌, List, [], ◌∷◌, ◌++◌, ⊤, codes, bytes_eq}
use Rattle.std.specs.Prelude.{Option, None, Some, Result, Ok, Err, ok_or}
use Rattle.std.specs.List.{list_any}
use Rattle.serde_json.specs.Data.{Data, Members, no_members, member}
use Rattle.serde_json.specs.Find.{get, as_object}
use Rattle.table_json.specs.declared.fault.Place.{Place}
use Rattle.table_json.specs.declared.fault.Field.{Field}
use Rattle.table_json.specs.declared.fault.Field.TheVariants.{Version, Singleton, Unpartitioned, Families, Permissions, Partitions, First, Last, Id, Name, Link, IgnoreArm, IgnoreRiscv, NoReboot, Processor, Rollback, Rows, Trial, RollbackRequired, FlashOff, SlotSize, SecureBoot}
use Rattle.table_json.specs.declared.fault.JsonFault.{JsonFault}
use Rattle.table_json.specs.declared.fault.JsonFault.TheVariants.{Unknown, Missing, Value}
use Rattle.table_json.specs.declared.members.Shape.{Shape}
use Rattle.table_json.specs.declared.members.Shape.TheVariants.{OfTable, OfUnpartitioned, OfPartition, OfPermissions, OfSpec, OfOtp}

-- the name of a member
abbrev pub member_name : Field → List ℕ
member_name Version = codes "version"
member_name Singleton = codes "singleton"
member_name Unpartitioned = codes "unpartitioned"
member_name Families = codes "families"
member_name Permissions = codes "permissions"
member_name Partitions = codes "partitions"
member_name First = codes "first"
member_name Last = codes "last"
member_name Id = codes "id"
member_name Name = codes "name"
member_name Link = codes "link"
member_name IgnoreArm = codes "ignore_arm"
member_name IgnoreRiscv = codes "ignore_riscv"
member_name NoReboot = codes "no_reboot"
member_name Processor = codes "processor"
member_name Rollback = codes "rollback"
member_name Rows = codes "rows"
member_name Trial = codes "trial"
member_name RollbackRequired = codes "rollback_required"
member_name FlashOff = codes "flash_off"
member_name SlotSize = codes "slot_size"
member_name SecureBoot = codes "secure_boot"

-- the names that are listed for a partition, in two parts
abbrev pub place_names : List (List ℕ)
place_names =
    codes "first" ∷ codes "last" ∷ codes "families" ∷ codes "permissions" ∷ codes "id" ∷ []

abbrev pub further_names : List (List ℕ)
further_names =
    codes "name" ∷ codes "link" ∷ codes "ignore_arm" ∷ codes "ignore_riscv"
    ∷ codes "no_reboot" ∷ []

-- the names that are listed for an object
abbrev pub names_of : Shape → List (List ℕ)
names_of OfTable =
    codes "version" ∷ codes "singleton" ∷ codes "unpartitioned" ∷ codes "partitions" ∷ []
names_of OfUnpartitioned = codes "families" ∷ codes "permissions" ∷ []
names_of OfPartition = place_names ++ further_names
names_of OfPermissions = codes "secure" ∷ codes "nonsecure" ∷ codes "bootloader" ∷ []
names_of OfSpec =
    codes "processor" ∷ codes "version" ∷ codes "rollback" ∷ codes "rows" ∷ codes "trial" ∷ []
names_of OfOtp =
    codes "rollback_required" ∷ codes "flash_off" ∷ codes "slot_size" ∷ codes "rows"
    ∷ codes "secure_boot" ∷ []

-- whether a name is listed for an object
abbrev pub is_member_name : Shape → List ℕ → Bool
is_member_name shape name = list_any (bytes_eq name) (names_of shape)

-- whether a member is not listed for an object
abbrev pub has_unknown : Shape → Members → Bool
has_unknown shape no_members = false
has_unknown shape (member name d ms) = not (is_member_name shape name) || has_unknown shape ms

-- the members of an object are judged before all: Unknown where one is not listed
abbrev pub members_judged : Shape → Place → Members → Result ⊤ JsonFault
members_judged shape place ms = if has_unknown shape ms then Err (Unknown place) else Ok tt

-- a value that is no object is answered Value of this field
abbrev pub object_judged_as : Shape → Place → Field → Option Members → Result ⊤ JsonFault
object_judged_as shape place field None = Err (Value place field)
object_judged_as shape place field (Some ms) = members_judged shape place ms

abbrev pub object_judged : Shape → Place → Field → Data → Result ⊤ JsonFault
object_judged shape place field d = object_judged_as shape place field (as_object d)

-- a value has a form where the form reads it, and Value otherwise
abbrev pub formed : {A : Type 0} → (Data → Option A) → Place → Field → Data → Result A JsonFault
formed form place field d = ok_or (form d) (Value place field)

-- a required member is Missing where it is absent, and then has its form
abbrev pub required_in : {A : Type 0} → (Data → Option A) → Place → Field → Option Data
    → Result A JsonFault
required_in form place field None = Err (Missing place field)
required_in form place field (Some d) = formed form place field d

abbrev pub required : {A : Type 0} → (Data → Option A) → Place → Field → Data
    → Result A JsonFault
required form place field d = required_in form place field (get (member_name field) d)

-- an optional member has its default where it is absent, and its form otherwise
abbrev pub optional_in : {A : Type 0} → (Data → Option A) → A → Place → Field → Option Data
    → Result A JsonFault
optional_in form default place field None = Ok default
optional_in form default place field (Some d) = formed form place field d

abbrev pub optional : {A : Type 0} → (Data → Option A) → A → Place → Field → Data
    → Result A JsonFault
optional form default place field d = optional_in form default place field
    (get (member_name field) d)
