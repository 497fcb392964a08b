use Rattle.ram_start.proofs.StartLemmas.{starts-exactly}
use Rattle.ram_start.proofs.laws.an_image_starts_at_a_reboot.Goals as goal

pub returns : goal.returns
returns c = starts-exactly
