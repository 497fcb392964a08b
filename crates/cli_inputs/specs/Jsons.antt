-- The tables and the specs of JSON texts, as relations by the rules of a text and as functions.
use Rattle.std.specs.Prelude.{ℕ, ◌≡◌, ◌⊎◌, ◌<◌, ◌≤◌, if◌then◌else◌, List, Option, None, Some, Result, Ok, Err, codes}
use Rattle.std.specs.Str.{is_utf8}
use Rattle.serde_json.specs.Data.{Data}
use Rattle.serde_json.specs.Read.{read}
use Rattle.part_table.specs.declared.table.Table.{Table}
use Rattle.part_table.specs.declared.table.TableFault.{TableFault}
use Rattle.part_table.specs.Rules.{IsFirstTableFault as IsFirstOfTable, HasNoFault}
use Rattle.part_table.specs.Written.{written_size}
use Rattle.image_pack.specs.declared.spec.SealSpec.{SealSpec}
use Rattle.table_json.specs.declared.fault.JsonFault.{JsonFault}
use Rattle.table_json.specs.declared.fault.JsonFault.TheVariants.{NotJson, TooLong, Table as Faulty}
use Rattle.table_json.specs.Otps.{OtpView, otp_from}
pub use Rattle.table_json.specs.OtpRules.{IsOtpText, IsOtpFault}
use Rattle.table_json.specs.Rules.{first_broken, table_rules, spec_rules}
use Rattle.table_json.specs.Seals.{spec_from}
use Rattle.table_json.specs.Tables.{table_fields, table_of_value}
use Rattle.table_json.specs.Texts.{IsJsonText}
use Rattle.cli_inputs.specs.JsonTexts.{json_text}

-- the bytes are the text of no value
abbrev pub IsNoText : List ℕ → Type 0
IsNoText bytes = (d : Data) → IsJsonText bytes d → ⊥

-- the text of a spec: it breaks no rule of a spec, and its members are these
pub record IsSpecText (bytes : List ℕ) (spec : SealSpec) : Type 0 where
  pub value : Data
  pub text : IsJsonText bytes value
  pub unbroken : first_broken (spec_rules value) ≡ None
  pub gives : spec_from value ≡ Ok spec

-- the text of a table: it breaks no rule of a table; its members are these; the table's block has
-- at most 640 bytes; its partitions have no fault in a flash of 4096 sectors, where the first two
-- are not free
pub record IsTableText (bytes : List ℕ) (table : Table) : Type 0 where
  pub value : Data
  pub text : IsJsonText bytes value
  pub unbroken : first_broken (table_rules value) ≡ None
  pub gives : table_fields value ≡ Ok table
  pub short : written_size table ≤ 640
  pub faultless : HasNoFault table.parts.items 4096 2

-- the first rule of a spec that a value breaks has this fault
abbrev pub IsSpecFault : Data → JsonFault → Type 0
IsSpecFault d fault = first_broken (spec_rules d) ≡ Some fault

-- the first rule of a table that a value breaks has this fault; or the value breaks no rule, and
-- the table's block is too long; or the block is not too long, and this is the first fault of the
-- partitions
abbrev pub IsTableFault : Data → JsonFault → Type 0
IsTableFault d fault =
    (first_broken (table_rules d) ≡ Some fault)
    ⊎ ((t : Table) × (table_fields d ≡ Ok t)
    × (((640 < written_size t) × (fault ≡ TooLong (written_size t)))
    ⊎ ((written_size t ≤ 640) × ((f : TableFault) × IsFirstOfTable t.parts.items 4096 2 f
    × (fault ≡ Faulty f)))))

-- bytes are the text of no value, or the value has a fault by these rules; this text names the
-- fault
abbrev pub IsTextFault : (Data → JsonFault → Type 0) → List ℕ → List ℕ → Type 0
IsTextFault IsFaultOf bytes text =
    (IsNoText bytes × (text ≡ codes "not-json"))
    ⊎ ((d : Data) × IsJsonText bytes d × ((fault : JsonFault) × IsFaultOf d fault
    × (text ≡ json_text fault)))

-- the value of a text, as a function
abbrev pub value_of : List ℕ → Option Data
value_of bytes = if is_utf8 bytes then read bytes else None

abbrev pub read_by : {A : Type 0} → (Data → Result A JsonFault) → Option Data → Result A JsonFault
read_by from None = Err NotJson
read_by from (Some d) = from d

-- the spec of a text, or its first fault
unfoldable pub spec_read : List ℕ → Result SealSpec JsonFault
spec_read bytes = read_by spec_from (value_of bytes)

-- the table of a text, or its first fault
unfoldable pub table_read : List ℕ → Result Table JsonFault
table_read bytes = read_by table_of_value (value_of bytes)

-- the OTP of a text, or its first fault
unfoldable pub otp_read : List ℕ → Result OtpView JsonFault
otp_read bytes = read_by otp_from (value_of bytes)

-- the text of the fault that was read, if any
abbrev pub read_fault : {A : Type 0} → Result A JsonFault → Option (List ℕ)
read_fault (Ok value) = None
read_fault (Err fault) = Some (json_text fault)
