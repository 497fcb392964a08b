-- By cases on the load unit.
use Rattle.boot_rules.proofs.GatedLemmas.{gated-home}
use Rattle.boot_rules.proofs.laws.a_gated_target_is_a_boot_member_or_kept.Goals as goal

pub returns : goal.returns
returns c = gated-home
