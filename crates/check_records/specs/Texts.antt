-- The lines of records, and of a script that is played again.
use Rattle.std.specs.Prelude.{ℕ, List, ◌++◌, codes, decimal, Option, Some, None}
use Rattle.text_lines.specs.Events.{outcome_text}
use Rattle.check_records.specs.declared.found.Again.{Again}
use Rattle.check_records.specs.declared.found.Again.TheVariants.{Yes, NoStep, NoTable, NoTarget}
use Rattle.check_records.specs.declared.found.Records.{Records}
use Rattle.check_records.specs.declared.found.Refused.{Refused}

-- the records that did nothing: how many, the first, and what the replay says of it
unfoldable pub refused_line : Refused → List ℕ
refused_line r =
    codes "records refused="
    ++ (decimal r.count ++ (codes " first=" ++ (decimal r.first ++ (codes " "
    ++ (outcome_text r.outcome ++ codes "\n")))))

unfoldable pub unfinished_line : ℕ → List ℕ
unfinished_line number = codes "records unfinished=" ++ (decimal number ++ codes "\n")

-- one line, or both in this order
unfoldable pub lines_by : Option Refused → Option ℕ → List ℕ
lines_by None None = codes "records ok\n"
lines_by (Some refused) None = refused_line refused
lines_by None (Some number) = unfinished_line number
lines_by (Some refused) (Some number) = refused_line refused ++ unfinished_line number

abbrev pub records_lines : Records → List ℕ
records_lines found = lines_by found.refused found.unfinished

unfoldable pub again_line : Again → List ℕ
again_line Yes = codes "again yes\n"
again_line (NoStep k) = codes "again no step=" ++ (decimal k ++ codes "\n")
again_line NoTable = codes "again no table\n"
again_line NoTarget = codes "again no target\n"
