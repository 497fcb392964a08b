-- The work of the commands that make images and tables, as functions.
use Rattle.std.specs.Prelude.{ℕ, false, List, [], ◌++◌, length, Option, None, Some, Result, Ok, Err, codes, decimal}
use Rattle.part_table.specs.declared.table.Table.{Table}
use Rattle.part_table.specs.Written.{written_table}
use Rattle.image_pack.specs.declared.spec.SealError.{SealError}
use Rattle.image_pack.specs.declared.spec.SealSpec.{SealSpec}
use Rattle.image_pack.specs.Faults.{block_offset}
use Rattle.image_pack.specs.Filling.{padded}
use Rattle.image_pack.specs.Sealing.{sealed_text}
use Rattle.table_json.specs.declared.fault.JsonFault.{JsonFault}
use Rattle.cli_tools.specs.Seals.{seal_error, seal_text, blamed, sealed_line}
use Rattle.cli_course.specs.Outcomes.{line, one_file, Work, Answers, Refuses}

-- the bytes of a table's file: its block, filled with 0xff to 4096 bytes
unfoldable pub table_file : Table → List ℕ
table_file t = padded 4096 (written_table t)

-- the line of a table of so many partitions
abbrev pub table_line : ℕ → List ℕ
table_line count = codes "table bytes=4096 partitions=" ++ line (decimal count)

-- nothing: the result of a work on a text that gives nothing
abbrev pub no_work : Work
no_work = Answers false [] []

-- a table is written
abbrev pub table_work : List ℕ → Result Table JsonFault → Work
table_work out (Ok t) =
    Answers false (table_line (length t.parts.items))
    (one_file out (table_file t))
table_work out (Err fault) = no_work

-- a binary is refused by its fault, or its sealed image is written
abbrev pub judged_work : List ℕ → List ℕ → List ℕ → List ℕ → SealSpec → Option SealError → Work
judged_work binary spec out b asked (Some error) =
    Refuses (blamed binary spec error) (seal_text error)
judged_work binary spec out b asked None =
    Answers false (sealed_line (length (sealed_text b asked)) (block_offset b))
    (one_file out (sealed_text b asked))

-- the work on a binary or an ELF file by the spec that a text gives; no work where the text is at
-- fault
abbrev pub seal_work : List ℕ → List ℕ → List ℕ → List ℕ → Result SealSpec JsonFault → Work
seal_work binary spec out b (Ok asked) =
    judged_work binary spec out b asked (seal_error b asked)
seal_work binary spec out b (Err fault) = no_work
