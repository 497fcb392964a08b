use Rattle.std.proofs.Common.{◌∙◌, sym}
use Rattle.table_json.specs.Families.{is_family_name as seen_so}
use Rattle.table_json.proofs.ViewLemmas.{all_seen}
use Rattle.table_json.proofs.families.are_names.Goals as goal

pub returns-then-not-is_family_name : goal.returns-then-not-is_family_name
returns-then-not-is_family_name c =
    sym
    (all_seen seen_so _ _ _ c.loop-value-test.true c.value-item.is
    (sym c.is_family_name.ensures ∙ c.if-not-is_family_name.true))
