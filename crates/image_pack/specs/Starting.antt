-- What the answer of a check of a sealed image means: the image starts by its new block, or by
-- another one.
use Rattle.std.specs.Prelude.{◌≡◌, ◌≢◌, ℕ, Result, Ok, Err}
use Rattle.image_def.specs.declared.started.Started.{Started}
use Rattle.image_check.specs.declared.why.Why.{Why}
use Rattle.image_pack.specs.declared.spec.SealError.{SealError}
use Rattle.image_pack.specs.declared.spec.SealError.TheVariants.{NotBootable, Displaced}

-- there is an image, and the block at this offset defines it
abbrev pub StartsAt : Result Started Why → ℕ → Type 0
StartsAt image at = (s : Started) × (image ≡ Ok s) × (s.block ≡ at)

-- there is no image, for this reason, or another block defines it
abbrev pub IsStartFault : Result Started Why → ℕ → SealError → Type 0
IsStartFault image at (NotBootable why) = image ≡ Err why
IsStartFault image at Displaced = (s : Started) × (image ≡ Ok s) × (s.block ≢ at)
IsStartFault image at e = ⊥
