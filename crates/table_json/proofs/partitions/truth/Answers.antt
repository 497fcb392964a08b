use Rattle.std.proofs.Common.{◌∙◌, false}
use Rattle.serde_json.specs.Find.{as_bool}
use Rattle.serde_json.specs.View.{view}
use Rattle.table_json.proofs.MemberLemmas.{optional_absent, optional_present}
use Rattle.table_json.proofs.partitions.truth.Goals as goal

pub returns-in-None : goal.returns-in-None
returns-in-None c =
    optional_absent as_bool false c.args.place c.args.field (view c.args.object.now) c.name.result.now c.name.ensures
    c.in-None.ensures

pub returns-in-Some : goal.returns-in-Some
returns-in-Some c =
    c.ok_or.ensures.value
    ∙ optional_present as_bool false c.args.place c.args.field (view c.args.object.now) c.name.result.now c.name.ensures
    (view c.in-Some.value.now) c.as_bool.result c.in-Some.ensures c.as_bool.ensures
