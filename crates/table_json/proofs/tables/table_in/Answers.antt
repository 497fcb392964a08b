use Rattle.std.proofs.Common.{◌≡◌, subst, ◌∙◌}
use Rattle.part_table.specs.declared.table.Table.{Table}
use Rattle.part_table.specs.Judged.{IsJudgedAs}
use Rattle.part_table.specs.Written.{written_table}
use Rattle.table_json.proofs.SaysLemmas.{ok_back}
use Rattle.table_json.proofs.tables.table_in.Goals as goal

pub returns-in-None-clause-judged : goal.returns-in-None-clause-judged
returns-in-None-clause-judged c = λ t fields short memory.
    let same : c.in_ok-table.table ≡ t = ok_back c.in_ok-table.table t (c.in_ok-table.ensures.value ∙ fields) in
    subst (λ (u : Table). IsJudgedAs (written_table u) u 4096 2) same c.in_ok-judge_size.ensures.judged

pub returns-in-Some-clause-judged : goal.returns-in-Some-clause-judged
returns-in-Some-clause-judged c = λ t fields short memory.
    let same : c.in_ok-table.table ≡ t = ok_back c.in_ok-table.table t (c.in_ok-table.ensures.value ∙ fields) in
    subst (λ (u : Table). IsJudgedAs (written_table u) u 4096 2) same c.in_ok-judge_size.ensures.judged
