-- Which line says that power was lost.
use Rattle.std.proofs.Common.{◌≡◌, ℕ, false, List, [], ◌∷◌, refl, subst, ap, true≢false}
use Rattle.std.specs.Prelude.{◌==◌, codes}
use Rattle.uf2_place.specs.declared.block.Uf2Fault.{Uf2Fault}
use Rattle.uf2_place.specs.declared.block.Uf2Fault.TheVariants.{Magic, Payload, Alignment, Number}
use Rattle.uf2_place.specs.declared.answer.Accepted.{Accepted}
use Rattle.uf2_place.specs.declared.answer.Accepted.TheVariants.{Skipped, Again, Taken, Done}
use Rattle.text_lines.specs.declared.outcome.Refusal.{Refusal}
use Rattle.text_lines.specs.declared.outcome.Refusal.TheVariants.{NoTarget, Outside, NotPermitted}
use Rattle.text_lines.specs.declared.outcome.BlockOutcome.{BlockOutcome}
use Rattle.text_lines.specs.declared.outcome.BlockOutcome.TheVariants as blocks
use Rattle.text_lines.specs.declared.outcome.EventOutcome.{EventOutcome}
use Rattle.text_lines.specs.declared.outcome.EventOutcome.TheVariants as events
use Rattle.text_lines.specs.Events.{accepted_text, block_text, form_text, outcome_text, refusal_text}

-- a text that does not begin as that of lost power does
abbrev IsOther : List ℕ → Type 0
IsOther [] = ⊥
IsOther (x ∷ xs) = (x == 112) ≡ false

apart : (text : List ℕ) → IsOther text → text ≡ codes "power lost" → ⊥
apart text is same = absurd-other (subst IsOther same is)
  where
    absurd-other : (112 == 112) ≡ false → ⊥
    absurd-other e = true≢false e

accepted-other : (number : ℕ) (accepted : Accepted) → IsOther (accepted_text number accepted)
accepted-other number Skipped = refl
accepted-other number Again = refl
accepted-other number Taken = refl
accepted-other number (Done t) = refl

form-other : (fault : Uf2Fault) → IsOther (form_text fault)
form-other Magic = refl
form-other Payload = refl
form-other Alignment = refl
form-other Number = refl

refusal-other : (refusal : Refusal) → IsOther (refusal_text refusal)
refusal-other NoTarget = refl
refusal-other Outside = refl
refusal-other NotPermitted = refl

block-other : (b : BlockOutcome) → IsOther (block_text b)
block-other (blocks.BadForm fault) = form-other fault
block-other (blocks.Refused refusal) = refusal-other refusal
block-other (blocks.Accepted number accepted) = accepted-other number accepted
block-other (blocks.Downloaded number d) = refl

pub lost-of : (outcome : EventOutcome) → outcome_text outcome ≡ codes "power lost" → outcome ≡ events.PowerLost
lost-of events.Off same = absurd (apart (codes "off") refl same)
lost-of events.Ignored same = absurd (apart (codes "ignored") refl same)
lost-of events.Ended same = absurd (apart (codes "end") refl same)
lost-of events.CutArmed same = absurd (apart (codes "cut armed") refl same)
lost-of events.PowerLost same = refl
lost-of (events.Booted d) same = absurd (apart (outcome_text (events.Booted d)) refl same)
lost-of events.Bought same = absurd (apart (codes "buy done") refl same)
lost-of events.NothingToBuy same = absurd (apart (codes "buy none") refl same)
lost-of events.BadMagic same = absurd (apart (codes "cmd bad-magic") refl same)
lost-of (events.Command c) same = absurd (apart (outcome_text (events.Command c)) refl same)
lost-of (events.Block b) same = absurd (apart (block_text b) (block-other b) same)

pub lost-says : (outcome : EventOutcome) → outcome ≡ events.PowerLost → outcome_text outcome ≡ codes "power lost"
lost-says outcome is = ap outcome_text is
