use Rattle.picoboot_cmd.proofs.RebootFlagLemmas.{one-of_six, six-are}
use Rattle.picoboot_cmd.proofs.laws.the_flags_of_a_reboot.Goals as goal

pub returns : goal.returns
returns c = λ flags. (one-of_six flags, six-are flags)
