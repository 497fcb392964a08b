use Rattle.part_table.proofs.BlockLemmas.{judged_again}
use Rattle.table_json.specs.Tables.{table_of_value}
use Rattle.table_json.proofs.WholeLemmas.{fault-fields, judged-short, long-exactly, read-exactly}
use Rattle.table_json.proofs.laws.whole_tables_are_judged_as_they_are_read.Goals as goal

pub returns-clause-too_long : goal.returns-clause-too_long
returns-clause-too_long c = long-exactly

pub returns-clause-read : goal.returns-clause-read
returns-clause-read c = λ d t answer fields ok.
    read-exactly t (judged_again t 4096 2 ok) (table_of_value d) answer (judged-short d t fields ok.readable.fits)

pub returns-clause-fields : goal.returns-clause-fields
returns-clause-fields c = fault-fields
