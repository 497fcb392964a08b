-- No value's first fault is NotJson.
use Rattle.std.proofs.Common.{◌∙◌, sym}
use Rattle.serde_json.specs.View.{view}
use Rattle.table_json.proofs.PlainLemmas.{spec_plain}
use Rattle.table_json.proofs.seals.spec_of.Goals as goal

pub returns-clause-not_json : goal.returns-clause-not_json
returns-clause-not_json c =
    λ not_json d reads. (spec_plain (view c.in_ok-value.value)).json (sym c.spec_in.ensures ∙ not_json)
