-- What is right for the commands that make images and tables, by the rules.
use Rattle.std.specs.Prelude.{◌≡◌, ℕ, List, length}
use Rattle.part_table.specs.declared.table.Table.{Table}
use Rattle.image_pack.specs.declared.spec.SealSpec.{SealSpec}
use Rattle.image_pack.specs.Faults.{IsSealed, block_offset}
use Rattle.image_pack.specs.Sealing.{sealed_text}
use Rattle.cli_course.specs.declared.status.Status.TheVariants.{Done}
use Rattle.cli_inputs.specs.Jsons.{IsSpecText, IsTableText}
use Rattle.cli_tools.specs.Seals.{sealed_line}
use Rattle.cli_tools.specs.Tools.{table_file, table_line}
use Rattle.cli_course.specs.Outcomes.{one_file, AnswerView}

-- `table`: the outcome prints a line on the table that the text gives, and writes its file
pub record IsTableOf (out j : List ℕ) (o : AnswerView) : Type 0 where
  pub table : Table
  pub says : IsTableText j table
  pub status : o.status ≡ Done
  pub text : o.text ≡ table_line (length table.parts.items)
  pub files : o.files ≡ one_file out (table_file table)

-- `seal`: the binary is sealed by the spec that the text gives; the outcome prints a line on the
-- sealed image, and writes it
pub record IsSealedOf (out b s : List ℕ) (o : AnswerView) : Type 0 where
  pub asked : SealSpec
  pub says : IsSpecText s asked
  pub sealed : IsSealed b asked
  pub status : o.status ≡ Done
  pub text : o.text ≡ sealed_line (length (sealed_text b asked)) (block_offset b)
  pub files : o.files ≡ one_file out (sealed_text b asked)
