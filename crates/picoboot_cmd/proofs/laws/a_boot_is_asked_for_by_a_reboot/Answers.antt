use Rattle.std.specs.Prelude.{length}
use Rattle.picoboot_cmd.specs.Checks.{status_of}
use Rattle.picoboot_cmd.proofs.RefusedLemmas.{boot-asked}
use Rattle.picoboot_cmd.proofs.laws.a_boot_is_asked_for_by_a_reboot.Goals as goal

pub returns : goal.returns
returns c = λ content t busy cmd payload.
    boot-asked (status_of (length content.flash) content.otp t busy cmd payload) content cmd payload
