use Rattle.picoboot_cmd.proofs.WellFormedDoneLemmas.{write-done}
use Rattle.picoboot_cmd.proofs.laws.a_permitted_write_is_done.Goals as goal

pub returns : goal.returns
returns c = write-done
