-- Validity reads of the OTP only whether the image is below its rollback rows, and raised rows only make that harder.
use Rattle.std.proofs.Common.{◌≡◌, ℕ, ◌%◌, ◌≤◌, Bool, true, List, Option, Some, None, IfSome, refl, ap, subst, arith}
use Rattle.std.specs.Prelude.{slice_index, IsTrue, ◌==◌, Result, Ok, Err}
use Rattle.std.specs.Int.{bit_at}
use Rattle.std.proofs.lemmas.Bool.{eq-eqb, eqb-true}
use Rattle.std.proofs.lemmas.Nat.Bits.{bit_at_lowest, bit_at-lt}
use Rattle.pico_board.specs.declared.boot.Cpu.{Cpu}
use Rattle.pico_board.specs.declared.window.Window.{Window}
use Rattle.block_codec.specs.declared.definition.Def.{Def}
use Rattle.image_def.specs.declared.started.Started.{Started}
use Rattle.otp_roll.specs.Rows.{count, Rises}
use Rattle.otp_roll.specs.Flags.{rollback_required}
use Rattle.otp_roll.specs.declared.flags.TheConstants.{BOOT_FLAGS}
use Rattle.otp_roll.proofs.RisingLemmas.{count-Rises}
use Rattle.image_check.specs.declared.addressing.Addressing.{Addressing}
use Rattle.image_check.specs.declared.examining.Defined.{Defined}
use Rattle.image_check.specs.declared.why.Why.{Why}
use Rattle.image_check.specs.Answers.{and_then, and_unless}
use Rattle.image_check.specs.Image.{defined_in, entered_in, image_in, started_of}
use Rattle.image_check.specs.NotBelow.{NotBelow}
use Rattle.image_check.specs.Rules.{rollback_fault, trial_fault}
use Rattle.image_check.specs.Valid.{IsValidImage}

-- a flag that was set stays set
odd-stays : (old new : ℕ) → bit_at old 0 ≤ bit_at new 0 → (old % 2 == 1) ≡ true → (new % 2 == 1) ≡ true
odd-stays old new has was =
    let odd = eqb-true (old % 2) 1 was in
    let first = bit_at_lowest old in
    let second = bit_at_lowest new in
    let few = bit_at-lt new 0 in
    eq-eqb (new % 2) 1 (omega (arith, odd, first, second, few, has))

pub required-stays : (old new : List ℕ) → Rises old new → IsTrue (rollback_required old)
    → IsTrue (rollback_required new)
required-stays old new rises was =
    odd-stays (slice_index old BOOT_FLAGS) (slice_index new BOOT_FLAGS) (rises.bits BOOT_FLAGS 0) was

-- an image that is not below raised rows was not below the rows before
pub raised-below : (old new : List ℕ) (s : Started) → Rises old new → NotBelow new s → NotBelow old s
raised-below old new s rises not = record {
  version = lower s.rollback not.version;
  required = λ was. not.required (required-stays old new rises was);
}
  where
    lower : (version : Option ℕ) → IfSome version (λ v. count new s.rows.items ≤ v)
        → IfSome version (λ v. count old s.rows.items ≤ v)
    lower None reaches = tt
    lower (Some v) reaches = let fewer = count-Rises rises s.rows.items in omega (arith, fewer, reaches)

module _ (a : Addressing) (w : Window) (cpu : Cpu) (trial : Bool) (otp other bytes : List ℕ) where
  -- a valid image that is not below other rows is valid on them
  pub valid-elsewhere : (s : Started) → IsValidImage a w cpu trial otp bytes s → NotBelow other s
      → IsValidImage a w cpu trial other bytes s
  valid-elsewhere s v not =
      let here = subst (NotBelow other) v.started not in
      record {
        image = v.image;
        entry = v.entry;
        sound = v.sound;
        tried = v.tried;
        listed = here.required;
        reached = here.version;
        started = v.started;
      }

  -- the answer is the same where the flag and the counts are
  same-rollback : rollback_required other ≡ rollback_required otp
      → ((rows : List ℕ) → count other rows ≡ count otp rows) → (def : Def)
      → rollback_fault other def ≡ rollback_fault otp def
  same-rollback flag counts def = rw (flag, counts def.rows.items) refl

  pub same-rows : rollback_required other ≡ rollback_required otp
      → ((rows : List ℕ) → count other rows ≡ count otp rows)
      → image_in a w cpu trial other bytes ≡ image_in a w cpu trial otp bytes
  unfolding image_in
  same-rows flag counts = go (defined_in cpu bytes)
    where
      go : (r : Result Defined Why)
          → and_then r (λ image. and_unless (trial_fault trial image.def) (and_unless (rollback_fault other image.def)
          (and_then (entered_in a cpu bytes image) (λ entry. Ok (started_of w image entry)))))
          ≡ and_then r (λ image. and_unless (trial_fault trial image.def) (and_unless (rollback_fault otp image.def)
          (and_then (entered_in a cpu bytes image) (λ entry. Ok (started_of w image entry)))))
      go (Ok image) =
          ap (λ o. and_unless (trial_fault trial image.def) (and_unless o
          (and_then (entered_in a cpu bytes image) (λ entry. Ok (started_of w image entry)))))
          (same-rollback flag counts image.def)
      go (Err why) = refl
