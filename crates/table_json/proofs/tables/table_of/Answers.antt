use Rattle.std.proofs.Common.{◌≡◌, ◌∙◌, ap, sym}
use Rattle.serde_json.specs.View.{view}
use Rattle.table_json.specs.Tables.{table_fields, table_of_value}
use Rattle.table_json.proofs.PlainLemmas.{table_json}
use Rattle.table_json.proofs.WholeLemmas.{judged-short, one_value, read-exactly}
use Rattle.table_json.proofs.tables.table_of.Goals as goal

pub returns-clause-not_json : goal.returns-clause-not_json
returns-clause-not_json c =
    λ not_json d reads.
    table_json (view c.in_ok-value.value)
    (sym (c.table_in.ensures.value (λ memory. let two = sym not_json ∙ memory in cc)) ∙ not_json)

pub returns-clause-whole : goal.returns-clause-whole
returns-clause-whole c = λ d t answer text fields short memory.
    let same : view c.in_ok-value.value ≡ d =
    one_value c.args.text.now (view c.in_ok-value.value) d c.in_ok-value.ensures.value text in
    let judged = c.table_in.ensures.judged t (ap table_fields same ∙ fields) short memory in
    read-exactly t judged c.table_in.result answer
    (c.table_in.ensures.value memory ∙ ap table_of_value same ∙ judged-short d t fields short)
