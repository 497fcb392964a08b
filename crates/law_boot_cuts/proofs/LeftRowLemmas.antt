-- The rows that an image's raises leave, done or torn: the image is not below them, and what was below the rows before
-- is below them.
use Rattle.std.proofs.Common.{◌≡◌, ℕ, ◌≤◌, List, Option, Some, None, sym, ap, ◌∙◌, subst, arith, inl, inr}
use Rattle.std.specs.Prelude.{◌<◌, IfSome, slice_index}
use Rattle.std.specs.List.{AllByRecursion}
use Rattle.std.proofs.lemmas.List.Elements.{recursion_from_All}
use Rattle.pico_board.specs.declared.Step.{Step}
use Rattle.pico_board.specs.Content.{Content, IsContent}
use Rattle.pico_board.specs.Steps.{IsRaise, MayLeave, after_all}
use Rattle.pico_board.proofs.RaiseLemmas.{HasBitsOf-after_all, IsRaisedIn-CutOf}
use Rattle.image_def.specs.declared.started.Started.{Started}
use Rattle.image_check.specs.NotBelow.{NotBelow}
use Rattle.otp_roll.specs.Flags.{flash_off, rollback_required, slot_size, slot_size_of}
use Rattle.otp_roll.specs.Raises.{raises}
use Rattle.otp_roll.specs.Rows.{AreRollbackRows, IsRollbackVersion, Rises, count}
use Rattle.otp_roll.specs.declared.rows.TheConstants.{FIRST_ROW}
use Rattle.otp_roll.proofs.CountedLemmas.{count-raises}
use Rattle.otp_roll.proofs.RisingLemmas.{count-between, cut-raises, former-Rises, low-row, raises-raise}
use Rattle.trial_buy.specs.Starting.{image_raises, raises_of}
use Rattle.std.proofs.Common.{◌/◌, ◌%◌, ◌==◌, lit<}

-- steps that are raises only raise rows
pub raises-rise : (c : Content) (steps : List Step) (d : Content) → AllByRecursion IsRaise steps → MayLeave c steps d
    → Rises c.otp d.otp
raises-rise c steps d all (inl done) =
    subst (λ (e : Content). Rises c.otp e.otp) (sym done)
    (record { bits = λ i k. HasBitsOf-after_all c steps i k all })
raises-rise c steps d all (inr cut) = former-Rises (IsRaisedIn-CutOf c steps d all cut)

-- the raises of an image are raises
pub image-raises : (otp rows : List ℕ) (rollback : Option ℕ) → AllByRecursion IsRaise (raises_of otp rows rollback)
image-raises otp rows None = tt
image-raises otp rows (Some v) = raises-raise otp rows v

-- the raises to a version leave a count that does not pass it
count-left : (c : Content) (rows : List ℕ) (v : ℕ) (d : Content) → IsContent c → AreRollbackRows rows
    → IsRollbackVersion v rows → count c.otp rows ≤ v → MayLeave c (raises c.otp rows v) d → count d.otp rows ≤ v
count-left c rows v d right listed is_version reached (inl done) =
    let after = count-raises c rows v right listed is_version in
    let same = ap (λ (e : Content). count e.otp rows) done in
    omega (arith, after, same, reached)
count-left c rows v d right listed is_version reached (inr cut) =
    let after = count-raises c rows v right listed is_version in
    let between = (count-between c d (after_all c (raises c.otp rows v)) rows (cut-raises c d rows v cut)).1 in
    omega (arith, after, between, reached)

module _ (c : Content) (rows : List ℕ) (d : Content) (listed : AreRollbackRows rows) where
  -- the boot flags and the slot size stay
  low-left : (rollback : Option ℕ) (i : ℕ) → i < FIRST_ROW → MayLeave c (raises_of c.otp rows rollback) d
      → slice_index d.otp i ≡ slice_index c.otp i
  low-left None i low (inl done) = ap (λ (e : Content). slice_index e.otp i) done
  low-left None i low (inr cut) = absurd cut
  low-left (Some v) i low left = low-row c rows v d i low (recursion_from_All _ rows listed.in_range) left

  module _ (rollback : Option ℕ) (left : MayLeave c (raises_of c.otp rows rollback) d) where
    pub required-left : rollback_required d.otp ≡ rollback_required c.otp
    required-left = ap (λ v. v % 2 == 1) (low-left rollback 0x048 (lit< tt) left)

    pub flash_off-left : flash_off d.otp ≡ flash_off c.otp
    flash_off-left = ap (λ v. v / 2 % 2 == 1) (low-left rollback 0x048 (lit< tt) left)

    pub slot_size-left : (n : ℕ) → slot_size d.otp n ≡ slot_size c.otp n
    slot_size-left n = ap (λ v. slot_size_of (v % 16) n) (low-left rollback 0x055 (lit< tt) left)

-- an image that is not below the rows is not below those that its own raises leave
pub not_below-left : (c : Content) (s : Started) (d : Content) → IsContent c → AreRollbackRows s.rows.items
    → IfSome s.rollback (λ v. IsRollbackVersion v s.rows.items) → NotBelow c.otp s
    → MayLeave c (image_raises c.otp s) d
    → NotBelow d.otp s
not_below-left c s d right listed is_version not left = record {
  version = go s.rollback is_version not.version left;
  required = λ is. not.required (sym (required-left c s.rows.items d listed s.rollback left) ∙ is);
}
  where
    go : (o : Option ℕ) → IfSome o (λ v. IsRollbackVersion v s.rows.items)
        → IfSome o (λ v. count c.otp s.rows.items ≤ v)
        → MayLeave c (raises_of c.otp s.rows.items o) d → IfSome o (λ v. count d.otp s.rows.items ≤ v)
    go None is reached way = tt
    go (Some v) is reached way = count-left c s.rows.items v d right listed is reached way
