use Rattle.boot_sweep.proofs.FirmLaws.{firm-free}
use Rattle.boot_sweep.proofs.laws.firm.a_firm_image_leaves_no_accidental_image.Goals as goal

pub returns : goal.returns
returns c = firm-free
