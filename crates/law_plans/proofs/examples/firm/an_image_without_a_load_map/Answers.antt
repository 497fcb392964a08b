use Rattle.std.proofs.Common.{refl, subst}
use Rattle.pico_board.specs.declared.boot.Cpu.TheVariants.{Arm}
use Rattle.image_pack.proofs.ReadBackLemmas.{one-loads}
use Rattle.boot_sweep.specs.Firms.{IsFirm, LoadsFront}
use Rattle.law_plans.specs.Examples.{arm_start_at, unmapped}
use Rattle.law_plans.proofs.FirmExampleLemmas.{unmapped-alone, unmapped_held}
use Rattle.law_plans.proofs.examples.firm.an_image_without_a_load_map.Goals as goal

never : IsFirm Arm unmapped (arm_start_at 0x1000) → ⊥
never f =
    let h = unmapped_held in
    let e = one-loads Arm unmapped f.held.sound.loop h.sound.loop f.held.image h.image f.held.sound.loads h.sound.loads
    f.held.sound.defined h.sound.defined f.held.sound.map h.sound.map in
    subst (LoadsFront 0x1000) e f.front

pub returns : goal.returns
returns c = (unmapped_held, refl, refl, unmapped-alone, never)
