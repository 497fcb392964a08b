-- The spec of a sealed image, from a text.
use Rattle.std.specs.Prelude.{ℕ, Bool, false, if◌then◌else◌, List, [], ◌∷◌, ◌++◌, length, nat_le}
use Rattle.std.specs.Prelude.{Option, None, Some, option_map, option_and_then, Result, Ok}
use Rattle.arrayvec.specs.ArrayVec.{ArrayVec}
use Rattle.block_codec.specs.declared.versions.Version.{Version}
use Rattle.pico_board.specs.declared.boot.Cpu.{Cpu}
use Rattle.pico_board.specs.Processors.{cpu_of}
use Rattle.serde_json.specs.Data.{Data}
use Rattle.serde_json.specs.Find.{as_bool, as_str}
use Rattle.image_pack.specs.declared.spec.SealSpec.{SealSpec}
use Rattle.table_json.specs.declared.fault.Place.TheVariants.{Top}
use Rattle.table_json.specs.declared.fault.Field.TheVariants.{Version as OfVersion, Processor, Rollback, Rows, Trial}
use Rattle.table_json.specs.declared.fault.JsonFault.{JsonFault}
use Rattle.table_json.specs.declared.members.Shape.TheVariants.{OfSpec}
use Rattle.table_json.specs.Steps.{◌>>=◌}
use Rattle.table_json.specs.Members.{object_judged, required, optional}
use Rattle.table_json.specs.Forms.{values_in, number_below, version_form}
use Rattle.table_json.specs.Tables.{no_version}

-- the processor that a text names
abbrev pub processor_form : Data → Option Cpu
processor_form d = option_and_then cpu_of (as_str d)

-- a rollback version that is there: a number below 65,536
abbrev pub rollback_form : Data → Option (Option ℕ)
rollback_form d = option_map Some (number_below 65536 d)

-- rows after those that were read before, each a number below 65,536
abbrev pub rows_after : List ℕ → List Data → Option (ArrayVec ℕ)
rows_after done [] = Some (record { items = done })
rows_after done (d ∷ ds) =
    option_and_then (λ row. rows_after (done ++ row ∷ []) ds) (number_below 65536 d)

-- rows are a list of at most 32
abbrev pub listed_rows : List Data → Option (ArrayVec ℕ)
listed_rows ds = if nat_le (length ds) 32 then rows_after [] ds else None

abbrev pub rows_form : Data → Option (ArrayVec ℕ)
rows_form d = option_and_then listed_rows (values_in d)

-- no rows
abbrev pub no_rows : ArrayVec ℕ
no_rows = record { items = [] }

-- a spec of these parts
abbrev pub spec_with : Cpu → Version → Option ℕ → ArrayVec ℕ → Bool → SealSpec
spec_with processor number rollback_version rollback_rows is_trial = record {
  cpu = processor;
  version = number;
  rollback = rollback_version;
  rows = rollback_rows;
  trial = is_trial;
}

-- the spec of a text's value, or its first fault: its object is judged first, then its members in
-- this order
abbrev pub spec_from : Data → Result SealSpec JsonFault
spec_from d = do
  judged ← object_judged OfSpec Top Processor d
  cpu ← required processor_form Top Processor d
  version ← optional version_form no_version Top OfVersion d
  rollback ← optional rollback_form None Top Rollback d
  rows ← optional rows_form no_rows Top Rows d
  trial ← optional as_bool false Top Trial d
  Ok (spec_with cpu version rollback rows trial)
