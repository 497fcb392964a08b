use Rattle.std.proofs.Common.{None, Some}
use Rattle.serde_json.specs.View.{view}
use Rattle.table_json.specs.declared.fault.Place.TheVariants.{Top}
use Rattle.table_json.specs.declared.fault.Field.TheVariants.{Version}
use Rattle.table_json.specs.Forms.{version_form}
use Rattle.table_json.specs.Tables.{no_version}
use Rattle.table_json.proofs.MemberLemmas.{optional_absent, optional_present}
use Rattle.table_json.proofs.tables.version.Goals as goal

pub returns-in-None : goal.returns-in-None
returns-in-None c =
    optional_absent version_form no_version Top Version (view c.args.object.now) c.name.result.now c.name.ensures
    c.in-None.ensures

pub returns-in-Some-version_form : goal.returns-in-Some-version_form
returns-in-Some-version_form c =
    optional_present version_form no_version Top Version (view c.args.object.now) c.name.result.now c.name.ensures
    (view c.in-Some.value.now) (Some c.in-Some-version_form.version) c.in-Some.ensures c.in-Some-version_form.ensures

pub returns-in-None-version_form : goal.returns-in-None-version_form
returns-in-None-version_form c =
    optional_present version_form no_version Top Version (view c.args.object.now) c.name.result.now c.name.ensures
    (view c.in-Some.value.now) None c.in-Some.ensures c.in-None-version_form.ensures
