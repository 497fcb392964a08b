-- Which images stay where rows rise.
use Rattle.std.proofs.Common.{◌≡◌, Bool, sym, subst}
use Rattle.pico_board.specs.declared.boot.Cpu.{Cpu}
use Rattle.pico_board.specs.declared.window.Window.{Window}
use Rattle.pico_board.specs.Content.{Content, window_bytes}
use Rattle.image_def.specs.declared.started.Started.{Started}
use Rattle.otp_roll.specs.Rows.{Rises}
use Rattle.image_check.specs.Addressing.{in_flash}
use Rattle.image_check.specs.NotBelow.{NotBelow}
use Rattle.image_check.specs.Valid.{IsValidImage, Valid}
use Rattle.image_check.proofs.LawLemmas.{not-below}
use Rattle.image_check.proofs.RollbackLemmas.{raised-below, valid-elsewhere}

-- an image stays where the bytes of its window do and it is not below the rows
pub image-kept : (c d : Content) (w : Window) (cpu : Cpu) (trial : Bool) (s : Started)
    → window_bytes d w ≡ window_bytes c w → NotBelow d.otp s → Valid c w cpu trial s → Valid d w cpu trial s
image-kept c d w cpu trial s bytes not v =
    subst (λ those. IsValidImage in_flash w cpu trial d.otp those s) (sym bytes)
    (valid-elsewhere in_flash w cpu trial c.otp d.otp (window_bytes c w) s v not)

-- an image that is there on risen rows was there before
pub image-back : (c d : Content) (w : Window) (cpu : Cpu) (trial : Bool) (s : Started)
    → window_bytes d w ≡ window_bytes c w → Rises c.otp d.otp → Valid d w cpu trial s → Valid c w cpu trial s
image-back c d w cpu trial s bytes rises v =
    subst (λ those. IsValidImage in_flash w cpu trial c.otp those s) bytes
    (valid-elsewhere in_flash w cpu trial d.otp c.otp (window_bytes d w) s v
    (raised-below c.otp d.otp s rises (not-below in_flash w cpu trial d.otp (window_bytes d w) s v)))
