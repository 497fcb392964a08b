use Rattle.std.proofs.Common.{◌≡◌, ℕ, ◌-◌, ◌≤◌, List, ◌++◌, length, replicate, ◌∙◌, arith}
use Rattle.std.proofs.lemmas.List.{length-append, length-replicate}
use Rattle.part_table.specs.declared.table.Table.{Table}
use Rattle.part_table.specs.Written.{written_table, written_size}
use Rattle.part_table.proofs.BlockLemmas.{size_told}
use Rattle.cli_tools.specs.Tools.{table_file}
use Rattle.cli_tools.proofs.laws.table_files_are_one_sector.Goals as goal

padded-length : (n : ℕ) (bytes : List ℕ) → length bytes ≤ n
    → length (bytes ++ replicate (n - length bytes) 255) ≡ n
padded-length n bytes few =
    length-append bytes (replicate (n - length bytes) 255)
    ∙ let fill = length-replicate {A = ℕ} (n - length bytes) 255 in omega (arith, few, fill)

one-sector : (t : Table) → written_size t ≤ 640 → length (table_file t) ≡ 4096
unfolding table_file
one-sector t short = let size = size_told t in padded-length 4096 (written_table t) (omega (arith, size, short))

pub returns : goal.returns
returns c = one-sector
