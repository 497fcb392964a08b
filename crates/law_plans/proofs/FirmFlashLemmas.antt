-- The worked firm image alone in a flash, by computing.
use Rattle.std.proofs.Common.{◌≡◌, ℕ, Bool, true, false, refl, sym, ap, subst}
use Rattle.pico_board.specs.declared.boot.Cpu.TheVariants.{Arm}
use Rattle.pico_board.specs.Content.{window_bytes}
use Rattle.block_codec.specs.Words.{word_bytes}
use Rattle.image_def.specs.declared.started.Started.{Started}
use Rattle.otp_roll.specs.Flags.{rollback_required}
use Rattle.worked_flashes.specs.Flashes.{rows_with}
use Rattle.image_check.specs.Addressing.{in_flash}
use Rattle.image_check.specs.Valid.{IsValidImage}
use Rattle.boot_sweep.specs.Firms.{Firm, IsFirm}
use Rattle.law_plans.specs.Examples.{alone_on, firm, arm_start_at, whole}
use Rattle.law_plans.proofs.FirmImageLemmas.{firm_held, firm_image, is-firm}

window-is : (flags : ℕ) → window_bytes (alone_on flags) whole ≡ firm
unfolding word_bytes
window-is flags = refl

pub firm-bytes_on : (flags : ℕ) → IsFirm Arm (window_bytes (alone_on flags) whole) (arm_start_at 0x1000)
firm-bytes_on flags = subst (λ bytes. IsFirm Arm bytes (arm_start_at 0x1000)) (sym (window-is flags)) is-firm

not-required : rollback_required (rows_with 0 0) ≡ false
not-required = refl

required : rollback_required (rows_with 1 0) ≡ true
required = refl

lists : (b : Bool) → b ≡ false → b ≡ true → ⊥
lists b off on = cc

valid : IsValidImage in_flash whole Arm true (rows_with 0 0) firm (arm_start_at 0x1000)
valid = record {
  image = firm_image;
  entry = firm_held.entry;
  sound = firm_held.sound;
  tried = λ is. refl;
  listed = λ is. absurd (lists (rollback_required (rows_with 0 0)) not-required is);
  reached = tt;
  started = refl;
}

pub firm-alone_on : Firm (alone_on 0) whole Arm (arm_start_at 0x1000)
firm-alone_on = record {
  valid = subst (λ bytes. IsValidImage in_flash whole Arm true (rows_with 0 0) bytes (arm_start_at 0x1000))
      (sym (window-is 0)) valid;
  firm = firm-bytes_on 0;
}

pub never-required : Firm (alone_on 1) whole Arm (arm_start_at 0x1000) → ⊥
never-required f = f.valid.listed required (sym (ap (λ (s : Started). s.rows.items) f.valid.started))
