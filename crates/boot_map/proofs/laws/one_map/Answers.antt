use Rattle.std.proofs.Common.{sym, ◌∙◌}
use Rattle.boot_map.proofs.MapLemmas.{map-only, map-right}
use Rattle.boot_map.proofs.laws.one_map.Goals as goal

pub returns-clause-right : goal.returns-clause-right
returns-clause-right c = map-right

pub returns-clause-only : goal.returns-clause-only
returns-clause-only c = map-only

pub returns-clause-same : goal.returns-clause-same
returns-clause-same c = λ content cpu m o right one two.
    map-only content cpu m right one ∙ sym (map-only content cpu o right two)
