use Rattle.std.proofs.Common.{sym, subst}
use Rattle.image_check.specs.Addressing.{in_flash}
use Rattle.image_check.specs.Changes.{moved_to}
use Rattle.image_check.specs.Valid.{IsValidImage}
use Rattle.image_check.proofs.LongerLemmas.{longer-sound, longer-valid}
use Rattle.image_check.proofs.laws.erased_bytes_behind_keep_the_image.Goals as goal

pub returns-clause-sound : goal.returns-clause-sound
returns-clause-sound c = λ a cpu w f image entry erased below s. longer-sound a cpu w f erased below image entry s

pub returns-clause-valid : goal.returns-clause-valid
returns-clause-valid c = λ a cpu trial one two otp w f s erased below v.
    longer-valid a cpu w f erased below one two trial otp s v

pub returns-clause-flash : goal.returns-clause-flash
returns-clause-flash c = λ d cpu trial one two p f s erased below is v.
    subst (λ bytes. IsValidImage in_flash two cpu trial d.otp bytes (moved_to two s)) (sym is)
    (longer-valid in_flash cpu p f erased below one two trial d.otp s v)
