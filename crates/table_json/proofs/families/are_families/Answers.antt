use Rattle.std.proofs.Common.{◌∙◌, sym}
use Rattle.table_json.specs.Families.{is_family as seen_so}
use Rattle.table_json.proofs.ViewLemmas.{all_seen}
use Rattle.table_json.proofs.families.are_families.Goals as goal

pub returns-then-not-is_family : goal.returns-then-not-is_family
returns-then-not-is_family c =
    sym
    (all_seen seen_so _ _ _ c.loop-value-test.true c.value-item.is
    (sym c.is_family.ensures ∙ c.if-not-is_family.true))
