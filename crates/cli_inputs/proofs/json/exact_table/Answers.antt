use Rattle.cli_inputs.proofs.JsonLemmas.{exact-table}
use Rattle.cli_inputs.proofs.json.exact_table.Goals as goal

pub returns-clause-value : goal.returns-clause-value
returns-clause-value c =
    exact-table c.args.text.now c.table_of.result c.table_of.ensures.table c.table_of.ensures.first
    c.table_of.ensures.exact
