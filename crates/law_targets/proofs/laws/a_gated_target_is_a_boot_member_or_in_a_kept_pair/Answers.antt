use Rattle.std.proofs.Common.{◌/◌, length}
use Rattle.boot_rules.proofs.TableLemmas.{found-sound}
use Rattle.law_targets.proofs.HomeLemmas.{home-words, not-both}
use Rattle.law_targets.proofs.HomeTargetLemmas.{gated-either, gated-slot, none-words, own-words}
use Rattle.law_targets.proofs.laws.a_gated_target_is_a_boot_member_or_in_a_kept_pair.Goals as goal

pub returns-clause-table : goal.returns-clause-table
returns-clause-table c = λ x cpu family target found is targeted gated.
    gated-either x cpu family target found is (own-words x cpu family target targeted found is) gated

pub returns-clause-slots : goal.returns-clause-slots
returns-clause-slots c = λ x cpu family target none targeted gated.
    gated-slot x cpu family target none (none-words x cpu family target targeted none) gated

pub returns-clause-apart : goal.returns-clause-apart
returns-clause-apart c = λ x w cpu found is boot_member kept.
    not-both found.table (length x.flash / 4096) (found-sound x found is) cpu w
    (home-words x cpu w found is boot_member) kept
