use Rattle.std.proofs.Common.{◌≡◌, ◌/◌, false, length, true, refl}
use Rattle.part_table.specs.Families.{absolute_family}
use Rattle.boot_rules.proofs.TableLemmas.{found-sound}
use Rattle.part_table.specs.Windows.{part_window}
use Rattle.law_targets.proofs.HomeLemmas.{home-words, lone-not, whole-not}
use Rattle.law_targets.proofs.HomeTargetLemmas.{absolute-not, home-gated}
use Rattle.law_targets.proofs.laws.what_is_never_a_boot_member.Goals as goal

pub returns-clause-whole : goal.returns-clause-whole
returns-clause-whole c = whole-not

pub returns-clause-absolute : goal.returns-clause-absolute
returns-clause-absolute c = λ x cpu target right targeted boot_member.
    absolute-not x cpu absolute_family target targeted right refl boot_member

pub returns-clause-lone : goal.returns-clause-lone
returns-clause-lone c = λ x cpu found i p is at first alone boot_member.
    lone-not found.table (length x.flash / 4096) (found-sound x found is) cpu i p at first alone
    (home-words x cpu (part_window p) found is boot_member)

pub returns-clause-ungated : goal.returns-clause-ungated
returns-clause-ungated c = λ x cpu family target right targeted executable ungated boot_member.
    (let gated : target.gated ≡ true = home-gated x cpu family target targeted right executable boot_member in
    let never : target.gated ≡ false = ungated in
    cc (gated, never))
