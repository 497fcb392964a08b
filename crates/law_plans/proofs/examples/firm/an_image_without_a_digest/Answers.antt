use Rattle.std.proofs.Common.{refl, subst}
use Rattle.std.specs.Prelude.{IsSome}
use Rattle.pico_board.specs.declared.boot.Cpu.TheVariants.{Arm}
use Rattle.image_check.specs.declared.examining.Defined.{Defined}
use Rattle.image_pack.proofs.ReadBackLemmas.{one-image}
use Rattle.boot_sweep.specs.Firms.{IsFirm}
use Rattle.law_plans.specs.Examples.{arm_start_at, undigested}
use Rattle.law_plans.proofs.FirmExampleLemmas.{undigested-alone, undigested_held, undigested_image}
use Rattle.law_plans.proofs.examples.firm.an_image_without_a_digest.Goals as goal

never : IsFirm Arm undigested (arm_start_at 0x1000) → ⊥
never f =
    let h = undigested_held in
    let e = one-image Arm undigested f.held.sound.loop h.sound.loop f.held.image h.image f.held.sound.defined
    h.sound.defined in
    let wrong : IsSome undigested_image.def.digest = subst (λ (i : Defined). IsSome i.def.digest) e f.hashed in cc

pub returns : goal.returns
returns c = (undigested_held, refl, (refl, refl), undigested-alone, never)
