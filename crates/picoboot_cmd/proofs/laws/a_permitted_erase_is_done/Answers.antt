use Rattle.picoboot_cmd.proofs.WellFormedDoneLemmas.{erase-done}
use Rattle.picoboot_cmd.proofs.laws.a_permitted_erase_is_done.Goals as goal

pub returns : goal.returns
returns c = erase-done
