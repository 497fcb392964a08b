-- Raises between steps: they change places with other steps, and one that is torn is a raise of fewer bits.
use Rattle.std.proofs.Common.{◌≡◌, ◌⊎◌, inl, inr, ℕ, List, [], ◌∷◌, ◌++◌, length, slice_index, refl, sym, ap, ◌∙◌, subst, arith}
use Rattle.std.specs.List.{AllByRecursion}
use Rattle.std.proofs.lemmas.Bool.{cases_eq, cases_lt}
use Rattle.std.proofs.lemmas.List.{ext_get_or}
use Rattle.std.proofs.lemmas.Nat.Bits.{same_from_bits}
use Rattle.pico_board.specs.declared.Step.{Step}
use Rattle.pico_board.specs.declared.step.Step.TheVariants.{Erase, Program, Raise}
use Rattle.pico_board.specs.Content.{Content}
use Rattle.pico_board.specs.Steps.{CutOf, MayLeave, Torn, after, after_all}
use Rattle.law_updates.specs.Raised.{IsRaiseOf}
use Rattle.law_updates.proofs.RowBitLemmas.{added, bit-after, bit-all, long-after, long-all, raise-here, raise-past, raise-there, row_bit, step_bit, torn-between, torn-long}

abbrev content_of : List ℕ → List ℕ → Content
content_of xs ys = record { flash = xs; otp = ys }

-- contents with the same flash and the same bits in their rows
pub same-content : (x y : Content) → y.flash ≡ x.flash → length y.otp ≡ length x.otp
    → ((row k : ℕ) → row_bit y row k ≡ row_bit x row k) → y ≡ x
same-content x y flash long bits =
    ap (λ (xs : List ℕ). content_of xs y.otp) flash
    ∙ ap (λ (ys : List ℕ). content_of x.flash ys)
    (ext_get_or 0 y.otp x.otp long (λ row lt.
    same_from_bits (slice_index y.otp row) (slice_index x.otp row) (λ k. bits row k)))

-- what steps make of the flash does not depend on the rows
pub flash-alike : (x y : Content) (steps : List Step) → y.flash ≡ x.flash
    → (after_all y steps).flash ≡ (after_all x steps).flash
flash-alike x y [] same = same
flash-alike x y (step ∷ steps) same = flash-alike (after x step) (after y step) steps (one step)
  where
    one : (step : Step) → (after y step).flash ≡ (after x step).flash
    one (Erase s) = ap (λ (xs : List ℕ). (after (content_of xs []) (Erase s)).flash) same
    one (Program p d) = ap (λ (xs : List ℕ). (after (content_of xs []) (Program p d)).flash) same
    one (Raise r b) = same

pub raised-flash : (Row : ℕ → Type 0) (x : Content) (raises : List Step) → AllByRecursion (IsRaiseOf Row) raises
    → (after_all x raises).flash ≡ x.flash
raised-flash Row x [] all = refl
raised-flash Row x (step ∷ raises) all = raised-flash Row (after x step) raises all.1 ∙ one step all.0
  where
    one : (step : Step) → IsRaiseOf Row step → (after x step).flash ≡ x.flash
    one (Erase s) is = absurd is
    one (Program p d) is = absurd is
    one (Raise r b) is = refl

-- steps behind raises lead where the raises behind the steps lead
pub raises-last : (Row : ℕ → Type 0) (x : Content) (raises steps : List Step) → AllByRecursion (IsRaiseOf Row) raises
    → after_all (after_all x raises) steps ≡ after_all (after_all x steps) raises
raises-last Row x raises steps all =
    same-content (after_all (after_all x steps) raises) (after_all (after_all x raises) steps)
    (flash-alike x (after_all x raises) steps (raised-flash Row x raises all)
    ∙ sym (raised-flash Row (after_all x steps) raises all))
    (long-all (after_all x raises) steps ∙ (long-all x raises
    ∙ sym (long-all (after_all x steps) raises ∙ long-all x steps)))
    (λ row k.
    (let one = bit-all (after_all x raises) steps row k in
    let two = bit-all x raises row k in
    let three = bit-all (after_all x steps) raises row k in
    let four = bit-all x steps row k in
    let here = ap (λ m. added m steps row k) (long-all x raises) in
    let there = ap (λ m. added m raises row k) (long-all x steps) in
    omega (arith, one, two, three, four, here, there)))

-- what a loss of power within a raise leaves is what a raise leaves
torn-raise : (c : Content) (r b : ℕ) (d : Content) → Torn c (Raise r b) d
    → d ≡ after c (Raise r (slice_index d.otp r))
torn-raise c r b d torn =
    same-content (after c (Raise r (slice_index d.otp r))) d torn.bytes
    (torn-long c (Raise r b) d torn ∙ sym (long-after c (Raise r (slice_index d.otp r))))
    (λ row k.
    (let now = bit-after c (Raise r (slice_index d.otp r)) row k in
    let both = torn-between c (Raise r b) d torn row k in
    let low = both.0 in
    let high = both.1 in
    elim (step-alike row k) [
      | inl (none, also) ↦ omega (arith, now, low, high, none, also)
      | inr all ↦ omega (arith, now, low, high, all)
    ]))
  where
    -- no bit is added either time, or the very bit that is there
    step-alike : (row k : ℕ)
        → ((step_bit (length c.otp) (Raise r b) row k ≡ 0)
        × (step_bit (length c.otp) (Raise r (slice_index d.otp r)) row k ≡ 0))
        ⊎ (step_bit (length c.otp) (Raise r (slice_index d.otp r)) row k ≡ row_bit d row k)
    step-alike row k = elim (cases_eq row r) [
      | inr other ↦ inl (
        raise-there (length c.otp) r b row k (λ e. other (sym e)),
        raise-there (length c.otp) r (slice_index d.otp r) row k (λ e. other (sym e)),
      )
      | inl here ↦ elim (cases_lt r (length c.otp)) [
        | inl lt ↦ inr (subst (λ j. step_bit (length c.otp) (Raise r (slice_index d.otp r)) j k ≡ row_bit d j k)
            (sym here) (raise-here (length c.otp) r (slice_index d.otp r) k lt))
        | inr le ↦ inl (
          raise-past (length c.otp) r b row k le,
          raise-past (length c.otp) r (slice_index d.otp r) row k le,
        )
      ]
    ]

-- the raises that are done of raises in which power is lost, the last of them of fewer bits
pub cut-raises : (Row : ℕ → Type 0) (c : Content) (steps : List Step) (d : Content)
    → AllByRecursion (IsRaiseOf Row) steps → CutOf c steps d
    → (raises : List Step) × AllByRecursion (IsRaiseOf Row) raises × (d ≡ after_all c raises)
cut-raises Row c [] d all cut = absurd cut
cut-raises Row c (Erase s ∷ steps) d all cut = absurd all.0
cut-raises Row c (Program p bytes ∷ steps) d all cut = absurd all.0
cut-raises Row c (Raise r b ∷ steps) d all (inl torn) =
    (Raise r (slice_index d.otp r) ∷ [], (all.0, tt), torn-raise c r b d torn)
cut-raises Row c (Raise r b ∷ steps) d all (inr later) =
    let rest = cut-raises Row (after c (Raise r b)) steps d all.1 later in
    (Raise r b ∷ rest.0, (all.0, rest.1), rest.2)

pub left-raises : (Row : ℕ → Type 0) (c : Content) (steps : List Step) (d : Content)
    → AllByRecursion (IsRaiseOf Row) steps → MayLeave c steps d
    → (raises : List Step) × AllByRecursion (IsRaiseOf Row) raises × (d ≡ after_all c raises)
left-raises Row c steps d all (inl done) = (steps, all, done)
left-raises Row c steps d all (inr cut) = cut-raises Row c steps d all cut

pub both-raise : (Row : ℕ → Type 0) (xs ys : List Step) → AllByRecursion (IsRaiseOf Row) xs
    → AllByRecursion (IsRaiseOf Row) ys → AllByRecursion (IsRaiseOf Row) (xs ++ ys)
both-raise Row [] ys first rest = rest
both-raise Row (x ∷ xs) ys first rest = (first.0, both-raise Row xs ys first.1 rest)
