use Rattle.std.proofs.Common.{◌∙◌, sym}
use Rattle.table_json.specs.Families.{names_family}
use Rattle.table_json.proofs.ViewLemmas.{any_seen}
use Rattle.table_json.proofs.families.is_named.Goals as goal

pub returns-then-names_family : goal.returns-then-names_family
returns-then-names_family c =
    sym
    (any_seen (names_family c.args.family) _ _ _ c.loop-value-test.true c.value-item.is
    (sym c.names_family.ensures ∙ c.if-names_family.true))
