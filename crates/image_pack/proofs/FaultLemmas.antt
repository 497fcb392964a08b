-- At most one fault of a sealing, and none of one that is done.
use Rattle.std.proofs.Common.{◌≡◌, ◌⊎◌, ℕ, zero, suc, ◌<◌, ◌≤◌, true, List, length, Result, Ok, Err, OnOk, IfErr, refl, sym, ap, subst, ◌∙◌, inl, inr, arith}
use Rattle.std.specs.Prelude.{IsErrOf}
use Rattle.std.proofs.lemmas.Bool.{cases_lt}
use Rattle.pico_board.specs.declared.window.TheConstants.{MOST_FLASH_BYTES}
use Rattle.image_def.specs.declared.started.Started.{Started}
use Rattle.otp_roll.specs.Rows.{AreRollbackRows}
use Rattle.image_check.specs.declared.why.Why.{Why}
use Rattle.image_check.specs.Addressing.{in_flash}
use Rattle.image_check.specs.Image.{image_in}
use Rattle.image_check.proofs.LawLemmas.{not-both, one-image, one-reason, valid-exactly, why-exactly}
use Rattle.image_pack.specs.declared.parts.Parts.{Parts}
use Rattle.image_pack.specs.declared.spec.SealError.{SealError}
use Rattle.image_pack.specs.declared.spec.SealError.TheVariants.{BadSpec, Unsealable, TooLarge, BlockTooLong, NotBootable, Displaced, Memory}
use Rattle.image_pack.specs.declared.spec.SealSpec.{SealSpec}
use Rattle.image_pack.specs.declared.spec.SpecField.TheVariants.{Rollback, Rows}
use Rattle.image_pack.specs.Faults.{Boots, IsRightSpec, IsSealFault, IsSealable, IsSealed, IsShort, block_offset, whole_window, zero_otp}
use Rattle.image_pack.specs.Filling.{whole_sectors}
use Rattle.image_pack.specs.Sealing.{parts_in, sealed_text}
use Rattle.image_pack.specs.Starting.{IsStartFault, StartsAt}

-- the place of a fault in the order
rank : SealError → ℕ
rank (BadSpec Rows) = 0
rank (BadSpec Rollback) = 1
rank (Unsealable why) = 2
rank TooLarge = 3
rank (BlockTooLong n) = 4
rank (NotBootable why) = 5
rank Displaced = 6
rank Memory = 7

module _ (b : List ℕ) (s : SealSpec) where
  -- what is judged at each place holds
  abbrev Passed : ℕ → Type 0
  Passed zero = AreRollbackRows s.rows.items
  Passed (suc zero) = IsRightSpec s
  Passed (suc (suc zero)) = IsSealable b s
  Passed (suc (suc (suc zero))) = length (sealed_text b s) ≤ MOST_FLASH_BYTES
  Passed (suc (suc (suc (suc zero)))) = IsShort b s
  Passed (suc (suc (suc (suc (suc zero))))) = (x : Started) × Boots s.cpu (sealed_text b s) x
  Passed (suc (suc (suc (suc (suc (suc k)))))) = IsSealed b s

  -- a spec that is right passes the places before
  passed-right : IsRightSpec s → (k : ℕ) → k < 2 → Passed k
  passed-right right zero lt = right.rows
  passed-right right (suc zero) lt = right
  passed-right right (suc (suc k)) lt = absurd (omega (arith, lt))

  passed-sealable : IsSealable b s → (k : ℕ) → k < 3 → Passed k
  passed-sealable is zero lt = is.right.rows
  passed-sealable is (suc zero) lt = is.right
  passed-sealable is (suc (suc zero)) lt = is
  passed-sealable is (suc (suc (suc k))) lt = absurd (omega (arith, lt))

  passed-short : IsShort b s → (k : ℕ) → k < 5 → Passed k
  passed-short is zero lt = is.sealable.right.rows
  passed-short is (suc zero) lt = is.sealable.right
  passed-short is (suc (suc zero)) lt = is.sealable
  passed-short is (suc (suc (suc zero))) lt = is.image
  passed-short is (suc (suc (suc (suc zero)))) lt = is
  passed-short is (suc (suc (suc (suc (suc k))))) lt = absurd (omega (arith, lt))

  passed-starting : IsShort b s → (x : Started) → Boots s.cpu (sealed_text b s) x → (k : ℕ) → k < 6 → Passed k
  passed-starting is x boots zero lt = is.sealable.right.rows
  passed-starting is x boots (suc zero) lt = is.sealable.right
  passed-starting is x boots (suc (suc zero)) lt = is.sealable
  passed-starting is x boots (suc (suc (suc zero))) lt = is.image
  passed-starting is x boots (suc (suc (suc (suc zero)))) lt = is
  passed-starting is x boots (suc (suc (suc (suc (suc zero))))) lt = (x, boots)
  passed-starting is x boots (suc (suc (suc (suc (suc (suc k)))))) lt = absurd (omega (arith, lt))

  passed-sealed : IsSealed b s → (k : ℕ) → Passed k
  passed-sealed is zero = is.short.sealable.right.rows
  passed-sealed is (suc zero) = is.short.sealable.right
  passed-sealed is (suc (suc zero)) = is.short.sealable
  passed-sealed is (suc (suc (suc zero))) = is.short.image
  passed-sealed is (suc (suc (suc (suc zero)))) = is.short
  passed-sealed is (suc (suc (suc (suc (suc zero))))) = (is.started, is.boots)
  passed-sealed is (suc (suc (suc (suc (suc (suc k)))))) = is

  -- a fault passes the places before its own
  passed : (e : SealError) → IsSealFault b s e → (k : ℕ) → k < rank e → Passed k
  unfolding rank
  passed (BadSpec Rows) x k lt = absurd (omega (arith, lt))
  passed (BadSpec Rollback) x zero lt = x.0
  passed (BadSpec Rollback) x (suc k) lt = absurd (omega (arith, lt))
  passed (Unsealable why) x k lt = passed-right x.0 k lt
  passed TooLarge x k lt = passed-sealable x.0 k lt
  passed (BlockTooLong n) x zero lt = x.0.right.rows
  passed (BlockTooLong n) x (suc zero) lt = x.0.right
  passed (BlockTooLong n) x (suc (suc zero)) lt = x.0
  passed (BlockTooLong n) x (suc (suc (suc zero))) lt = x.1
  passed (BlockTooLong n) x (suc (suc (suc (suc k)))) lt = absurd (omega (arith, lt))
  passed (NotBootable why) x k lt = passed-short x.0 k lt
  passed Displaced x k lt = passed-starting x.0 x.1.0 x.1.1 k lt
  passed Memory x k lt = absurd x

  differs : (p : Parts) (why : Why) (r : Result Parts Why) → r ≡ Ok p → r ≡ Err why → ⊥
  differs p why r is no_ = cc

  -- a fault does not pass its own place
  failed : (e : SealError) → IsSealFault b s e → Passed (rank e) → ⊥
  unfolding rank
  failed (BadSpec Rows) x p = x p
  failed (BadSpec Rollback) x p = x.1 p.rollback
  failed (Unsealable why) x p = differs p.parts why (parts_in s.cpu (whole_sectors b)) p.read x.1
  failed TooLarge x p = omega (arith, x.1, p)
  failed (BlockTooLong n) x p = omega (arith, x.2, x.3, p.block)
  failed (NotBootable why) x p =
      not-both in_flash (whole_window (sealed_text b s)) s.cpu true zero_otp (whole_sectors (sealed_text b s)) p.0 why
      p.1 x.1
  failed Displaced x p =
      x.1.2 (ap (λ (y : Started). y.block)
      (one-image in_flash (whole_window (sealed_text b s)) s.cpu true zero_otp (whole_sectors (sealed_text b s))
      x.1.0 p.started x.1.1 p.boots) ∙ p.block)
  failed Memory x p = absurd x

  -- two faults of one place are one
  same : (e f : SealError) → rank e ≡ rank f → IsSealFault b s e → IsSealFault b s f → e ≡ f
  unfolding rank
  same (BadSpec Rows) (BadSpec Rows) r x y = refl
  same (BadSpec Rollback) (BadSpec Rollback) r x y = refl
  same (Unsealable why) (Unsealable other) r x y =
      let err : (q : Result Parts Why) → q ≡ Err why → q ≡ Err other → why ≡ other = λ q one two. cc in
      ap (λ (w : Why). Unsealable w) (err (parts_in s.cpu (whole_sectors b)) x.1 y.1)
  same TooLarge TooLarge r x y = refl
  same (BlockTooLong n) (BlockTooLong m) r x y = ap (λ (k : ℕ). BlockTooLong k) (x.3 ∙ sym y.3)
  same (NotBootable why) (NotBootable other) r x y =
      ap (λ (w : Why). NotBootable w)
      (one-reason in_flash (whole_window (sealed_text b s)) s.cpu true zero_otp (whole_sectors (sealed_text b s))
      why other x.1 y.1)
  same Displaced Displaced r x y = refl
  same Memory f r x y = absurd x
  same e Memory r x y = absurd y
  same (BadSpec Rows) f r x y = absurd (omega (arith, r))
  same (BadSpec Rollback) f r x y = absurd (omega (arith, r))
  same e (BadSpec Rows) r x y = absurd (omega (arith, r))
  same e (BadSpec Rollback) r x y = absurd (omega (arith, r))
  same e f r x y = absurd (omega (arith, r))

  -- there is at most one fault
  pub one-fault : (e f : SealError) → IsSealFault b s e → IsSealFault b s f → e ≡ f
  one-fault e f x y = elim (cases_lt (rank e) (rank f)) [
    | inl below ↦ absurd (failed e x (passed f y (rank e) below))
    | inr above ↦ elim (cases_lt (rank f) (rank e)) [
      | inl below ↦ absurd (failed f y (passed e x (rank f) below))
      | inr over ↦ same e f (omega (arith, above, over)) x y
    ]
  ]

  -- what is sealed has no fault
  pub no-fault : IsSealed b s → (e : SealError) → IsSealFault b s e → ⊥
  no-fault is e x = failed e x (passed-sealed is (rank e))

  -- the answer of a check of these bytes
  abbrev pub image_of : List ℕ → Result Started Why
  image_of text = image_in in_flash (whole_window text) s.cpu true zero_otp (whole_sectors text)

  -- what a check of the sealed image says of it
  pub sealed-by : IsShort b s
      → StartsAt (image_of (sealed_text b s)) (block_offset b)
      → IsSealed b s
  sealed-by short starts = record {
    short = short;
    started = starts.0;
    boots =
        (valid-exactly in_flash (whole_window (sealed_text b s)) s.cpu true zero_otp (whole_sectors (sealed_text b s))
        starts.0).1 starts.1;
    block = starts.2;
  }

  pub fault-by : IsShort b s → (e : SealError)
      → IsStartFault (image_of (sealed_text b s)) (block_offset b) e
      → IsSealFault b s e
  fault-by short (NotBootable why) x = (
    short,
    (why-exactly in_flash (whole_window (sealed_text b s)) s.cpu true zero_otp (whole_sectors (sealed_text b s))
        why).1 x,
  )
  fault-by short Displaced x = (
    short,
    (
      x.0,
      (valid-exactly in_flash (whole_window (sealed_text b s)) s.cpu true zero_otp (whole_sectors (sealed_text b s))
          x.0).1 x.1,
      x.2,
    ),
  )
  fault-by short (BadSpec field) x = absurd x
  fault-by short (Unsealable why) x = absurd x
  fault-by short TooLarge x = absurd x
  fault-by short (BlockTooLong n) x = absurd x
  fault-by short Memory x = absurd x

  -- what a check of the sealed image says of it, where the check's answer is given
  pub sealed-when : (text : List ℕ) (r : Result Started Why) (at : ℕ) → IsShort b s → text ≡ sealed_text b s
      → r ≡ image_of text → at ≡ block_offset b → StartsAt r at → IsSealed b s
  sealed-when text r at short text_is r_is at_is starts =
      sealed-by short
      (subst (λ (q : Result Started Why). StartsAt q (block_offset b)) (r_is ∙ ap image_of text_is)
      (subst (λ (a : ℕ). StartsAt r a) at_is starts))

  pub fault-when : (text : List ℕ) (r : Result Started Why) (at : ℕ) (e : SealError) → IsShort b s
      → text ≡ sealed_text b s → r ≡ image_of text → at ≡ block_offset b → IsStartFault r at e → IsSealFault b s e
  fault-when text r at e short text_is r_is at_is fault =
      fault-by short e
      (subst (λ (q : Result Started Why). IsStartFault q (block_offset b) e) (r_is ∙ ap image_of text_is)
      (subst (λ (a : ℕ). IsStartFault r a e) at_is fault))

  -- an answer tells each fault exactly, but for want of memory
  pub told : {T : Type 0} (r : Result T SealError) → OnOk r (IsSealed b s)
      → IfErr r (λ e. IsSealFault b s e ⊎ (e ≡ Memory)) → (e : SealError) → IsSealFault b s e
      → IsErrOf r e ⊎ IsErrOf r Memory
  told (Ok value) sealed fault e x = absurd (no-fault sealed e x)
  told (Err f) sealed fault e x = elim fault [
    | inl y ↦ inl (ap (λ (g : SealError). Err g) (one-fault f e y x))
    | inr memory ↦ inr (ap (λ (g : SealError). Err g) memory)
  ]
