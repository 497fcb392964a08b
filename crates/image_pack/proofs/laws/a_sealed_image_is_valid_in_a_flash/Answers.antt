use Rattle.std.proofs.Common.{true, sym, subst}
use Rattle.image_check.specs.Addressing.{in_flash}
use Rattle.image_check.specs.Changes.{moved_to}
use Rattle.image_check.specs.Valid.{IsValidImage}
use Rattle.image_check.proofs.LongerLemmas.{longer-valid}
use Rattle.image_check.proofs.RollbackLemmas.{valid-elsewhere}
use Rattle.image_pack.specs.Faults.{whole_window, zero_otp}
use Rattle.image_pack.specs.Filling.{whole_sectors}
use Rattle.image_pack.specs.Sealing.{sealed_text}
use Rattle.image_pack.proofs.laws.a_sealed_image_is_valid_in_a_flash.Goals as goal

pub returns-clause-valid : goal.returns-clause-valid
returns-clause-valid c = λ binary spec sealed d w f erased is below not_below.
    let text = sealed_text binary spec in
    let here = valid-elsewhere in_flash (whole_window text) spec.cpu true zero_otp d.otp (whole_sectors text)
    sealed.started sealed.boots not_below in
    subst (λ bytes. IsValidImage in_flash w spec.cpu true d.otp bytes (moved_to w sealed.started)) (sym is)
    (longer-valid in_flash spec.cpu (whole_sectors text) f erased below (whole_window text) w true d.otp
    sealed.started here)
