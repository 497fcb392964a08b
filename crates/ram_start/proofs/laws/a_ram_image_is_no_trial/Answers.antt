use Rattle.image_check.specs.Addressing.{in_ram}
use Rattle.image_check.proofs.LawLemmas.{trial-none}
use Rattle.ram_start.specs.Images.{ram_window}
use Rattle.ram_start.proofs.laws.a_ram_image_is_no_trial.Goals as goal

pub returns : goal.returns
returns c = λ content bytes base cpu s valid.
    trial-none (in_ram base) (ram_window base bytes) cpu content.otp bytes s valid
